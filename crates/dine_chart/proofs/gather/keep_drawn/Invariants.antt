use Rattle.std.proofs.Common.{◌≡◌, ◌++◌, take}
use Rattle.std.specs.List.{filter}
use Rattle.dine_chart.specs.Gather.{touches}
use Rattle.dine_chart.proofs.gather.keep_drawn.Given as goal

-- the marks so far are kept, where something of them is drawn
abbrev pub invariant-loop-mark : goal.invariant-loop-mark
invariant-loop-mark l = l.kept.items ≡ l.initial.kept.items ++ filter (touches l.window) (take l.mark-index l.marks)
