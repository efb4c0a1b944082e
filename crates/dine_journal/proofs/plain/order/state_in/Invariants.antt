use Rattle.std.proofs.Common.{◌≡◌, drop}
use Rattle.dine_table.specs.Table.{state_in}
use Rattle.dine_journal.proofs.plain.order.state_in.Given as goal

-- none of the diners so far is the task, so what the rest says is what all say
abbrev pub invariant-loop-diner : goal.invariant-loop-diner
invariant-loop-diner l = state_in (drop l.diner-index l.order) l.task ≡ state_in l.order l.task
