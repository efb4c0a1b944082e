use Rattle.std.proofs.Common.{false, None, get_or, set, length-set, arith, ap, sym, ◌∙◌}
use Rattle.std.proofs.lemmas.List.{get_or_default}
use Rattle.std.proofs.lemmas.List.Edits.{map_over_more}
use Rattle.dine_journal.specs.Kept.{table_now}
use Rattle.dine_front.specs.Waits.{has_turn, still_awaited}
use Rattle.dine_front.proofs.Waited.{not_reached, written_all, written_at}
use Rattle.dine_front.proofs.waiting.end_each.Goals as goal

-- one pass more is judged by what stood in its place
pub loop-number-preserved : goal.loop-number-preserved
loop-number-preserved c =
    let xs = c.args.tasks.now in
    let i = c.loop-number.number in
    let t = table_now c.args.hall.now in
    let known = c.loop-number.invariant in
    let x = get_or xs i None in
    let at = not_reached (still_awaited t) xs c.loop-number.tasks i None (omega arith) known.left in
    record {
      len = length-set c.loop-number.told i _ ∙ known.len;
      told = written_at (has_turn t) xs None c.loop-number.told false i _ (omega (arith, known.len)) known.told (c.judged-is_told.ensures.told ∙ ap (has_turn t) at);
      left =
          ap (λ y. set c.loop-number.tasks i y) (c.judged-is_told.ensures.left ∙ ap (still_awaited t) at)
          ∙ map_over_more (still_awaited t) xs c.loop-number.tasks i x (omega arith) known.left (sym (not_reached (still_awaited t) xs c.loop-number.tasks i x (omega arith) known.left ∙ get_or_default xs i x None (omega arith)));
    }

-- all are judged
pub returns-clause-told : goal.returns-clause-told
returns-clause-told c =
    let xs = c.args.tasks.now in
    let known = c.loop-number.invariant in
    let t = table_now c.args.hall.now in
    written_all (has_turn t) xs None c.loop-number.told false 16 (omega arith) known.len (λ k lt. known.told k (omega (arith, c.loop-number-test.false)))
