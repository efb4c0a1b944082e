use Rattle.std.proofs.Common.{◌-◌, ◌≤◌}
use Rattle.dine_lines.proofs.names.Hints.with_room.Given as goal

-- there is a place
abbrev pub invariant-loop-len : goal.invariant-loop-len
invariant-loop-len l = 1 ≤ l.len

-- each round makes more of them
abbrev pub decreases-loop-len : goal.decreases-loop-len
decreases-loop-len l = 1048576 - l.len
