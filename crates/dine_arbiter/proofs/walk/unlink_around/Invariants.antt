use Rattle.dine_arbiter.proofs.Lemmas.{◌≡◌, not, length, filter, is_end, slot_list}
use Rattle.dine_arbiter.proofs.walk.unlink_around.Given as goal

-- the records of other slots are as they were
abbrev pub invariant-loop-id : goal.invariant-loop-id
invariant-loop-id l =
    record {
      slots : l.book.slots ≡ l.initial.book.slots;
      room : l.book.room ≡ l.initial.book.room;
      others : filter (λ r. not (is_end l.slot r)) l.book.records ≡ filter (λ r. not (is_end l.slot r)) l.initial.book.records;
    }

-- each step leaves the slot fewer records
abbrev pub decreases-loop-id : goal.decreases-loop-id
decreases-loop-id l = length (slot_list l.slot l.book.records)
