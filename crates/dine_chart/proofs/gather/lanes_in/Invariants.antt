use Rattle.std.proofs.Common.{◌≡◌, take}
use Rattle.std.specs.List.{filter}
use Rattle.dine_chart.specs.Gather.{stays_into}
use Rattle.dine_chart.proofs.gather.lanes_in.Given as goal

-- the lanes so far are kept, where they are seen
abbrev pub invariant-loop-lane : goal.invariant-loop-lane
invariant-loop-lane l = l.seen.items ≡ filter (λ lane. stays_into l.window lane.left) (take l.lane-index l.lane-items)
