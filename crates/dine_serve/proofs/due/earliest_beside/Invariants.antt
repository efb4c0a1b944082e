use Rattle.dine_serve.proofs.Words.{length, IfSome, slot_list, IsWalk, rest_of, IsDueAt, LeadsOn}
use Rattle.dine_serve.proofs.DueBeside.{IsSoFar}
use Rattle.dine_serve.proofs.due.earliest_beside.Given as goal

-- what was found is due, and leads what was found before, and those at the other ends of the records so far
abbrev pub invariant-loop-next : goal.invariant-loop-next
invariant-loop-next l =
    record {
      walk : IsWalk l.task.slot l.next l.book.records;
      due : IfSome l.earliest (IsDueAt l.arbiter.table l.waiters.rows);
      on : LeadsOn l.arbiter.table.order l.fn.found l.earliest;
      so_far : IsSoFar l.arbiter.table l.waiters.rows l.earliest l.task.slot (slot_list l.task.slot l.book.records) (rest_of l.next (slot_list l.task.slot l.book.records));
    }

-- what is left of the walk
abbrev pub decreases-loop-next : goal.decreases-loop-next
decreases-loop-next l = length (rest_of l.next (slot_list l.task.slot l.book.records))
