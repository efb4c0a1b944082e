use Rattle.std.proofs.Common.{◌≡◌, ◌+◌, ◌<◌, length, map, vec_capacity, vec_len}
use Rattle.dine_table.specs.Table.{neighbours_of}
use Rattle.dine_forks.specs.Book.{slot_list}
use Rattle.dine_forks.proofs.CallerLemmas.{IsWalk, rest_of}
use Rattle.dine_bars.specs.Marks.{beside}
use Rattle.dine_bars.proofs.Beside.{beside_at}
use Rattle.dine_bars.proofs.Looking.{IsLooking}
use Rattle.dine_bars.proofs.look.look_around.Given as goal

-- the looks so far, and those at the tasks of the records still to be visited, are all at neighbours
abbrev pub invariant-loop-next : goal.invariant-loop-next
invariant-loop-next l =
    record {
      walk : IsWalk l.task.slot l.next l.book.records;
      looking : IsLooking l.call l.place l.arbiter.table l.task l.kind l.initial.begun.items l.initial.marks.items (neighbours_of l.arbiter.table l.task) (map (beside_at l.arbiter.table l.task) (rest_of l.next (slot_list l.task.slot l.book.records))) l.begun.items l.marks.items;
      len : vec_len l.marks + length (rest_of l.next (slot_list l.task.slot l.book.records)) < vec_len l.initial.marks + length (beside l.arbiter.table l.task);
      room : vec_capacity l.marks ≡ vec_capacity l.initial.marks;
    }

-- what is left of the walk
abbrev pub decreases-loop-next : goal.decreases-loop-next
decreases-loop-next l = length (rest_of l.next (slot_list l.task.slot l.book.records))
