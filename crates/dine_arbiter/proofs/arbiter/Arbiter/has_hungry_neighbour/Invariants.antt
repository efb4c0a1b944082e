use Rattle.dine_arbiter.proofs.Lemmas.{◌≡◌, length, list_any, slot_list, is_hungry_beside, IsWalk, rest_of}
use Rattle.dine_arbiter.proofs.arbiter.Arbiter.has_hungry_neighbour.Given as goal

-- some record's other end is hungry exactly where that of one is that is still to be visited
abbrev pub invariant-loop-next : goal.invariant-loop-next
invariant-loop-next l =
    record {
      walk : IsWalk l.task.slot l.next l.book.records;
      hungry : list_any (is_hungry_beside l.seats l.task.slot) (rest_of l.next (slot_list l.task.slot l.book.records)) ≡ list_any (is_hungry_beside l.seats l.task.slot) (slot_list l.task.slot l.book.records);
    }

-- what is left of the walk
abbrev pub decreases-loop-next : goal.decreases-loop-next
decreases-loop-next l = length (rest_of l.next (slot_list l.task.slot l.book.records))
