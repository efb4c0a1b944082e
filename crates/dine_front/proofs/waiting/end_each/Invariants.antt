use Rattle.std.specs.Prelude.{◌≡◌, ℕ, ◌<◌, ◌++◌, false, None, drop, get_or, length, map, take}
use Rattle.dine_journal.specs.Kept.{table_now}
use Rattle.dine_front.specs.Waits.{has_turn, still_awaited}
use Rattle.dine_front.proofs.waiting.end_each.Given as goal

-- the passes so far are judged, and the others are as they were
abbrev pub invariant-loop-number : goal.invariant-loop-number
invariant-loop-number l =
    record {
      len : length l.told ≡ 16;
      told : (k : ℕ) → k < l.number → get_or l.told k false ≡ has_turn (table_now l.hall) (get_or l.initial.tasks k None);
      left : l.tasks ≡ map (still_awaited (table_now l.hall)) (take l.number l.initial.tasks) ++ drop l.number l.initial.tasks;
    }
