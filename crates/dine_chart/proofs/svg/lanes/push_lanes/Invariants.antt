use Rattle.std.proofs.Common.{◌≡◌, ◌++◌, take}
use Rattle.dine_chart.specs.Svg.{lanes_text}
use Rattle.dine_chart.proofs.svg.lanes.push_lanes.Given as goal

-- the lanes so far are drawn
abbrev pub invariant-loop-lane : goal.invariant-loop-lane
invariant-loop-lane l = l.out.items ≡ l.initial.out.items ++ lanes_text l.picture (take l.lane-index l.picture.lanes.items)
