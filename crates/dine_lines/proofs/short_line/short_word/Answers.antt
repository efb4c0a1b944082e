use Rattle.std.proofs.Common.{◌≡◌, ◌<◌, ◌+◌, ◌++◌, length, take, get_or, if◌then◌else◌, sym, ap, ◌∙◌, add-one, arith, take-append-drop}
use Rattle.std.proofs.lemmas.Bool.Decides.{nat_tests}
use Rattle.std.proofs.lemmas.List.{take_rest}
use Rattle.dine_lines.specs.ShortWords.{is_above_space}
use Rattle.dine_lines.proofs.FirstBytes.{drop-next}
use Rattle.dine_lines.proofs.Lanes.{all_in}
use Rattle.dine_lines.proofs.short_line.short_word.Goals as goal
use Rattle.dine_lines.proofs.short_line.short_word.Goals.{in-32, in-10}

pub returns : goal.returns
returns c =
    let text = c.args.text.now in
    let len = c.len_above_space-len.result in
    let run = c.len_above_space-len.ensures in
    let some : 0 < len = grind (arith, nat_tests) in
    let short : len < 32 = grind (arith, nat_tests) in
    let inside : len < length text = grind (arith, nat_tests) in
    let ends : get_or text len 0 ≡ (if c.match-text-len.is_last then 10 else 32) = elim c.match-text-len.branch [
      | in-32 w ↦ rw w.is_last-is w.in-32.is
      | in-10 w ↦ rw w.is_last-is w.in-10.is
    ] in
    record {
      some = some;
      short = short;
      within = omega arith;
      above = all_in is_above_space text len (omega arith) run.1;
      is = rw (take_rest text (len + 1), add-one len) (sym (take-append-drop len text) ∙ ap (λ rest. take len text ++ rest) (drop-next len _ text inside ends));
    }
