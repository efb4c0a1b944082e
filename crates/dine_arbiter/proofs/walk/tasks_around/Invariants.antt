use Rattle.dine_arbiter.proofs.Lemmas.{◌≡◌, ◌++◌, length, map, not, filter, ◌&&◌, holds, slot_list, neighbour_at, IsWalk, rest_of}
use Rattle.dine_arbiter.proofs.walk.tasks_around.Given as goal

-- the tasks found so far, and those of the records still to be visited, are all
abbrev pub invariant-loop-next : goal.invariant-loop-next
invariant-loop-next l =
    record {
      walk : IsWalk l.slot l.next l.book.records;
      tasks : l.tasks.items ++ map (neighbour_at l.seats l.slot) (filter (λ r. not (l.lacked_alone && holds l.slot r)) (rest_of l.next (slot_list l.slot l.book.records))) ≡ map (neighbour_at l.seats l.slot) (filter (λ r. not (l.lacked_alone && holds l.slot r)) (slot_list l.slot l.book.records));
    }

-- what is left of the walk
abbrev pub decreases-loop-next : goal.decreases-loop-next
decreases-loop-next l = length (rest_of l.next (slot_list l.slot l.book.records))
