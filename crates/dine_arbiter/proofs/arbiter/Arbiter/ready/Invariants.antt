use Rattle.dine_arbiter.proofs.Lemmas.{◌≡◌, ◌++◌, length, map, IsSearch, ready_slots, slots_left, task_at}
use Rattle.dine_arbiter.proofs.arbiter.Arbiter.ready.Given as goal

-- the tasks found so far, and those at the slots still to be found, are all
abbrev pub invariant-loop-slot : goal.invariant-loop-slot
invariant-loop-slot l =
    record {
      kept : IsSearch l.hungry l.search;
      tasks : l.tasks.items ++ map (task_at l.seats) (slots_left l.search l.hungry l.book) ≡ map (task_at l.seats) (ready_slots l.hungry l.book);
    }

-- what is left of the search
abbrev pub decreases-loop-slot : goal.decreases-loop-slot
decreases-loop-slot l = length (slots_left l.search l.hungry l.book)
