use Rattle.std.proofs.Common.{subst}
use Rattle.dine_lines.specs.ShortWords.{BeginsWord}
use Rattle.dine_script.proofs.ShortLines.{fault-of, no_comment, reads-more, reads-one, reads-three, reads-two}
use Rattle.dine_script.proofs.command.short_fault.Goals as goal

pub returns-then-word : goal.returns-then-word
returns-then-word c =
    let text = c.args.text.now in
    let word = c.in_ok-word.word in
    let begins = subst (λ last. BeginsWord text word.len last word.rest.now) c.if-word.true c.in_ok-word.ensures in
    let read = reads-one c.args.names.now text word.rest.now word.len begins (no_comment word.len text c.if-text-eq35.false) in
    fault-of c.args.names.now text word.rest.now c.fault_in.result c.read_unnamed.ensures c.fault_in.ensures.fault c.fault_in.ensures.rest read

pub returns-then-first : goal.returns-then-first
returns-then-first c =
    let text = c.args.text.now in
    let word = c.in_ok-word.word in
    let first = c.in_ok-first.first in
    let begins = subst (λ last. BeginsWord text word.len last word.rest.now) c.if-word.false c.in_ok-word.ensures in
    let name = subst (λ last. BeginsWord word.rest.now first.len last first.rest.now) c.if-first.true c.in_ok-first.ensures in
    let read = reads-two c.args.names.now text word.rest.now first.rest.now word.len first.len begins name (no_comment word.len text c.if-text-eq35.false) in
    fault-of c.args.names.now text first.rest.now c.fault_in-then-first.result c.read_one_named-reading.ensures c.fault_in-then-first.ensures.fault c.fault_in-then-first.ensures.rest read

pub returns-then-not-second : goal.returns-then-not-second
returns-then-not-second c =
    let text = c.args.text.now in
    let word = c.in_ok-word.word in
    let first = c.in_ok-first.first in
    let second = c.in_ok-second.second in
    let begins = subst (λ last. BeginsWord text word.len last word.rest.now) c.if-word.false c.in_ok-word.ensures in
    let name = subst (λ last. BeginsWord word.rest.now first.len last first.rest.now) c.if-first.false c.in_ok-first.ensures in
    let other = subst (λ last. BeginsWord first.rest.now second.len last second.rest.now) c.if-not-second.true c.in_ok-second.ensures in
    reads-more c.args.names.now text word.rest.now first.rest.now second.rest.now c.in_ok-after_filled_line.field-0.now word.len first.len second.len begins name other c.in_ok-after_filled_line.ensures (no_comment word.len text c.if-text-eq35.false)

pub returns : goal.returns
returns c =
    let text = c.args.text.now in
    let word = c.in_ok-word.word in
    let first = c.in_ok-first.first in
    let second = c.in_ok-second.second in
    let begins = subst (λ last. BeginsWord text word.len last word.rest.now) c.if-word.false c.in_ok-word.ensures in
    let name = subst (λ last. BeginsWord word.rest.now first.len last first.rest.now) c.if-first.false c.in_ok-first.ensures in
    let other = subst (λ last. BeginsWord first.rest.now second.len last second.rest.now) c.if-not-second.false c.in_ok-second.ensures in
    let read = reads-three c.args.names.now text word.rest.now first.rest.now second.rest.now word.len first.len second.len begins name other (no_comment word.len text c.if-text-eq35.false) in
    fault-of c.args.names.now text second.rest.now c.fault_in-2.result c.read_two_named-reading.ensures c.fault_in-2.ensures.fault c.fault_in-2.ensures.rest read
