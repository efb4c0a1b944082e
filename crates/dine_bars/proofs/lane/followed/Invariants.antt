use Rattle.std.proofs.Common.{◌≡◌, drop}
use Rattle.dine_bars.specs.Lanes.{lane_from}
use Rattle.dine_bars.proofs.lane.followed.Given as goal

-- the lane so far, followed by the rest of the marks, is the whole lane
abbrev pub invariant-loop-mark : goal.invariant-loop-mark
invariant-loop-mark l = lane_from l.lane (drop l.mark-index l.marks) ≡ lane_from l.initial.lane l.marks
