use Rattle.std.proofs.Common.{◌≡◌, ◌++◌, drop}
use Rattle.dine_bars.specs.Lanes.{lanes_of}
use Rattle.dine_bars.proofs.lane.lanes.Given as goal

-- the lanes so far and those of the rest of the marks are all lanes
abbrev pub invariant-loop-place : goal.invariant-loop-place
invariant-loop-place l = l.lanes.items ++ lanes_of (drop l.place l.marks) ≡ lanes_of l.marks
