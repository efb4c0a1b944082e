use Rattle.std.proofs.Common.{◌<◌, ◌+◌, ◌∷◌, take, drop, length, sym, ap, ◌∙◌, arith, add-one}
use Rattle.std.proofs.lemmas.List.{take_rest}
use Rattle.std.proofs.lemmas.Bool.Decides.{nat_tests}
use Rattle.dine_lines.specs.Lines.{lines_of}
use Rattle.dine_lines.proofs.Pieces.{left_behind, lines_of-first, lines_of-only}
use Rattle.dine_lines.proofs.line_words.next_line.Goals as goal

pub returns-in-Some-clause-some : goal.returns-in-Some-clause-some
returns-in-Some-clause-some c =
    lines_of-first c.in-Some.end c.args.text.now c.in-Some.ensures
    ∙ ap (λ rest. take c.in-Some.end c.args.text.now ∷ lines_of rest)
    (ap (λ n. drop n c.args.text.now) (sym (add-one c.in-Some.end)) ∙ sym (take_rest c.args.text.now (c.in-Some.end + 1)))

pub returns-in-None-clause-some : goal.returns-in-None-clause-some
returns-in-None-clause-some c =
    let some : 0 < length c.args.text.now = grind (arith, nat_tests) in
    lines_of-only c.args.text.now some c.in-None.ensures

pub returns-in-Some-clause-left : goal.returns-in-Some-clause-left
returns-in-Some-clause-left c =
    left_behind (c.in-Some.end + 1) c.args.text.now _ (let inside = c.in-Some.ensures.0.high in omega (arith, inside)) (take_rest c.args.text.now (c.in-Some.end + 1))
