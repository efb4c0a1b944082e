use Rattle.std.proofs.Common.{◌≡◌, ◌++◌, take}
use Rattle.dine_chart.specs.Svg.{layer_text}
use Rattle.dine_chart.proofs.svg.layers.push_layer.Given as goal

-- the marks so far are drawn
abbrev pub invariant-loop-mark : goal.invariant-loop-mark
invariant-loop-mark l = l.out.items ≡ l.initial.out.items ++ layer_text l.picture l.layer (take l.mark-index l.marks)
