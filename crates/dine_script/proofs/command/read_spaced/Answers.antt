use Rattle.std.proofs.Common.{◌∷◌, [], take, sym, subst, arith}
use Rattle.dine_lines.specs.ShortWords.{BeginsSpaced}
use Rattle.dine_lines.proofs.CallerLemmas.{line-behind, line-last, line-onto}
use Rattle.dine_script.specs.Commands.{ReadsFirst}
use Rattle.dine_script.proofs.ShortLines.{no_comment, reads-line}
use Rattle.dine_script.proofs.command.read_spaced.Goals as goal

pub returns-then-word : goal.returns-then-word
returns-then-word c =
    let text = c.args.text.now in
    let line = c.in_ok-line.line.now in
    let word = c.in_ok-word.word in
    let begins = subst (λ last. BeginsSpaced line word.len last word.rest.now) c.if-word.true c.in_ok-word.ensures in
    subst (ReadsFirst c.args.names.now text word.rest.now) (sym c.read_unnamed.ensures)
    (reads-line c.args.names.now text word.rest.now (take word.len line) [] 128 (line-behind text line word.rest.now _ 64 c.in_ok-line.ensures (line-last line word.rest.now word.len begins)) (omega arith) (no_comment word.len line c.if-line-eq35.false))

pub returns-then-first : goal.returns-then-first
returns-then-first c =
    let text = c.args.text.now in
    let line = c.in_ok-line.line.now in
    let word = c.in_ok-word.word in
    let first = c.in_ok-first.first in
    let begins = subst (λ last. BeginsSpaced line word.len last word.rest.now) c.if-word.false c.in_ok-word.ensures in
    let name = subst (λ last. BeginsSpaced word.rest.now first.len last first.rest.now) c.if-first.true c.in_ok-first.ensures in
    let begun = line-onto line word.rest.now first.rest.now _ word.len 64 begins (line-last word.rest.now first.rest.now first.len name) in
    subst (ReadsFirst c.args.names.now text first.rest.now) (sym c.read_one_named-reading.ensures)
    (reads-line c.args.names.now text first.rest.now (take word.len line) (take first.len word.rest.now ∷ []) 192 (line-behind text line first.rest.now _ 128 c.in_ok-line.ensures begun) (omega arith) (no_comment word.len line c.if-line-eq35.false))

pub returns : goal.returns
returns c =
    let text = c.args.text.now in
    let line = c.in_ok-line.line.now in
    let word = c.in_ok-word.word in
    let first = c.in_ok-first.first in
    let second = c.in_ok-second.second in
    let begins = subst (λ last. BeginsSpaced line word.len last word.rest.now) c.if-word.false c.in_ok-word.ensures in
    let name = subst (λ last. BeginsSpaced word.rest.now first.len last first.rest.now) c.if-first.false c.in_ok-first.ensures in
    let other = subst (λ last. BeginsSpaced first.rest.now second.len last second.rest.now) c.if-not-second.false c.in_ok-second.ensures in
    let behind = line-onto word.rest.now first.rest.now second.rest.now _ first.len 64 name (line-last first.rest.now second.rest.now second.len other) in
    let begun = line-onto line word.rest.now second.rest.now _ word.len 128 begins behind in
    subst (ReadsFirst c.args.names.now text second.rest.now) (sym c.read_two_named-read.ensures)
    (reads-line c.args.names.now text second.rest.now (take word.len line) (take first.len word.rest.now ∷ take second.len first.rest.now ∷ []) 256 (line-behind text line second.rest.now _ 192 c.in_ok-line.ensures begun) (omega arith) (no_comment word.len line c.if-line-eq35.false))
