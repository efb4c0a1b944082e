use Rattle.std.proofs.Common.{◌≡◌, drop}
use Rattle.dine_table.specs.Table.{stands_before}
use Rattle.dine_journal.proofs.plain.order.stands_before.Given as goal

-- none of the diners so far is one of the two, so what the rest says is what all say
abbrev pub invariant-loop-diner : goal.invariant-loop-diner
invariant-loop-diner l = stands_before (drop l.diner-index l.order) l.a l.b ≡ stands_before l.order l.a l.b
