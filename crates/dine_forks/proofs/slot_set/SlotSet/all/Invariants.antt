use Rattle.std.proofs.Common.{◌≡◌, ℕ, ◌<◌, true, false, length, get_or}
use Rattle.dine_forks.proofs.slot_set.SlotSet.all.Given as goal

-- each slot below is a member
abbrev pub invariant-loop-slot : goal.invariant-loop-slot
invariant-loop-slot l =
    record {
      len : length l.set ≡ l.slots;
      in_it : (k : ℕ) → k < l.slot → get_or l.set k false ≡ true;
    }
