use Rattle.std.proofs.Common.{◌≡◌, drop}
use Rattle.std.specs.List.{list_any}
use Rattle.dine_table.specs.Table.{keeps_waiting, neighbours_in}
use Rattle.dine_journal.proofs.plain.order.has_to_wait.Given as goal

-- no neighbour so far keeps the task waiting, so what the rest says is what all say
abbrev pub invariant-loop-conflict : goal.invariant-loop-conflict
invariant-loop-conflict l =
    list_any (keeps_waiting l.order l.task) (neighbours_in (drop l.conflict-index l.conflicts) l.task)
    ≡ list_any (keeps_waiting l.order l.task) (neighbours_in l.conflicts l.task)
