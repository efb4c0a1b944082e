use Rattle.std.proofs.Common.{◌≡◌, ◌<◌, ◌+◌, ◌-◌, ◌++◌, true, true≢false, length, take, drop, ap, subst, ◌∙◌, add-one, length-drop, arith}
use Rattle.std.proofs.lemmas.Bool.Decides.{nat_tests}
use Rattle.std.proofs.lemmas.List.{length-take-le, take_rest}
use Rattle.std.specs.List.{list_all}
use Rattle.dine_lines.specs.Lines.{is_blank}
use Rattle.dine_lines.specs.ShortWords.{is_above_space}
use Rattle.dine_lines.proofs.FirstBytes.{drop-next}
use Rattle.dine_lines.proofs.Lanes.{all_in}
use Rattle.dine_lines.proofs.ShortLines.{in-three}
use Rattle.dine_lines.proofs.short_line.spaced_word.Goals as goal

pub returns-then-text-end-eq10 : goal.returns-then-text-end-eq10
returns-then-text-end-eq10 c =
    let text = c.args.text.now in
    let len = c.len_above_space-len.result in
    let gap = c.in_ok-gap.gap in
    let run = c.len_above_space-len.ensures in
    let some : 0 < len = grind (arith, nat_tests) in
    let short : len < 32 = grind (arith, nat_tests) in
    let inside : len + gap < length text = grind (arith, nat_tests) in
    let behind : take (length text - len) (drop len text) ≡ drop len text = take_rest text len in
    record {
      some = some;
      short = short;
      within = omega arith;
      above = all_in is_above_space text len (omega arith) run.1;
      gap = take gap (drop len text);
      blanks = subst (λ l. list_all is_blank (take gap l) ≡ true) behind c.in_ok-gap.ensures.blanks;
      few = omega (arith, c.in_ok-gap.ensures.few, length-take-le gap (drop len text) (omega (arith, length-drop len text)));
      apart = λ no. absurd (true≢false no);
      is = rw (take_rest text (len + gap + 1), add-one (len + gap)) (in-three text len gap ∙ ap (λ rest. take len text ++ take gap (drop len text) ++ rest) (drop-next (len + gap) 10 text inside c.if-text-end-eq10.true));
    }

pub returns : goal.returns
returns c =
    let text = c.args.text.now in
    let len = c.len_above_space-len.result in
    let gap = c.in_ok-gap.gap in
    let run = c.len_above_space-len.ensures in
    let some : 0 < len = grind (arith, nat_tests) in
    let short : len < 32 = grind (arith, nat_tests) in
    let spaced : 0 < gap = grind (arith, nat_tests) in
    let behind : take (length text - len) (drop len text) ≡ drop len text = take_rest text len in
    let long = length-take-le gap (drop len text) (omega (arith, length-drop len text)) in
    record {
      some = some;
      short = short;
      within = omega arith;
      above = all_in is_above_space text len (omega arith) run.1;
      gap = take gap (drop len text);
      blanks = subst (λ l. list_all is_blank (take gap l) ≡ true) behind c.in_ok-gap.ensures.blanks;
      few = omega (arith, c.in_ok-gap.ensures.few, long);
      apart = λ no. omega (arith, spaced, long);
      is = rw (take_rest text (len + gap)) (in-three text len gap);
    }
