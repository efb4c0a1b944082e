use Rattle.std.proofs.Common.{rules, ◌≡◌, ◌<◌, ◌≤◌, ◌+◌, ◌-◌, ◌∷◌, take, drop, length, slice_index, sym, ap, ◌∙◌, arith, add-one}
use Rattle.std.proofs.lemmas.List.{length-drop, length-take, length-take-le, take_rest}
use Rattle.std.proofs.lemmas.Bool.Decides.{nat_tests}
use Rattle.dine_words.specs.Ranges.{most_bytes}
use Rattle.dine_lines.specs.Lines.{lines_of}
use Rattle.dine_lines.proofs.Pieces.{comment_is_passed_over, left_behind, lines_of-first}
use Rattle.dine_lines.proofs.line_words.after_comment.Goals as goal

pub returns-in-Some : goal.returns-in-Some
returns-in-Some c =
    let text = c.args.text.now in
    let end = c.in-Some.end in
    let found = c.in-Some.ensures in
    let first = lines_of-first end text found ∙ ap (λ rest. take end text ∷ lines_of rest) (ap (λ n. drop n text) (sym (add-one end)) ∙ sym (take_rest text (end + 1))) in
    let begins : slice_index text 0 ≡ 35 = search rules in
    let some : 0 < length text = grind (arith, nat_tests) in
    let inside : end < length text = found.0.high in
    let until = length-take-le end text (omega (arith, inside)) in
    let most : end ≤ most_bytes = search rules in
    let left = length-drop (end + 1) text in
    let after = length-take (length text - (end + 1)) (drop (end + 1) text) in
    record {
      line = take end text;
      first = first;
      shorter = grind (arith, nat_tests, inside, left, after);
      left = left_behind (end + 1) text _ (omega (arith, inside)) (take_rest text (end + 1));
      short = rw until (grind (arith, nat_tests, most));
      passed = comment_is_passed_over text (take end text) _ some begins first;
    }
