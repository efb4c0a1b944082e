use Rattle.std.proofs.Common.{◌≡◌, ◌++◌, take, drop}
use Rattle.dine_table.specs.Calls.{with_state}
use Rattle.dine_journal.proofs.plain.order.set_state.Given as goal

-- the diners so far have the state if they are the task, and the rest is as it was
abbrev pub invariant-loop-diner : goal.invariant-loop-diner
invariant-loop-diner l =
    l.order ≡ with_state l.state l.task (take l.diner-index l.initial.order) ++ drop l.diner-index l.initial.order
