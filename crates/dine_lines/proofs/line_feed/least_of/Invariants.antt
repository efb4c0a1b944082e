use Rattle.std.proofs.Common.{◌+◌, ◌*◌}
use Rattle.dine_lines.specs.Blocks.{Bounds}
use Rattle.dine_lines.proofs.line_feed.least_of.Given as goal

-- the lanes so far are the least ones of the vectors so far
abbrev pub invariant-loop-vector : goal.invariant-loop-vector
invariant-loop-vector l = Bounds l.least l.text l.at (l.at + 16 * l.vector)
