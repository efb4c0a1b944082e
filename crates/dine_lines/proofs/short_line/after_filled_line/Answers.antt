use Rattle.std.proofs.Common.{◌≡◌, true, get_or, arith}
use Rattle.std.proofs.lemmas.Bool.Decides.{nat_tests}
use Rattle.dine_lines.specs.ShortWords.{is_above_space}
use Rattle.dine_lines.proofs.ShortLines.{more-of}
use Rattle.dine_lines.proofs.short_line.after_filled_line.Goals as goal

pub returns-in-Some : goal.returns-in-Some
returns-in-Some c =
    let text = c.args.text.now in
    let cut = c.in-Some.ensures in
    let shorter = cut.shorter in
    let above : is_above_space (get_or text 0 0) ≡ true = grind (arith, nat_tests) in
    let found = more-of text c.in-Some.field-0-0.now c.in-Some.rest.now (omega (arith, shorter)) above cut.some in
    record { line = c.in-Some.field-0-0.now; first = cut.some; shorter = shorter; left = cut.left; word = found.0; words = found.1; cut = found.2 }
