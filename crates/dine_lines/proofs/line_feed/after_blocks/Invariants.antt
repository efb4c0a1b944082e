use Rattle.std.proofs.Common.{◌≤◌, ◌-◌, length}
use Rattle.dine_lines.specs.Blocks.{HasNoFeed}
use Rattle.dine_lines.proofs.line_feed.after_blocks.Given as goal

-- the blocks so far have no line feed
abbrev pub invariant-loop-at : goal.invariant-loop-at
invariant-loop-at l = (l.at ≤ length l.text) × HasNoFeed l.text 0 l.at

-- each block leaves fewer bytes of the text
abbrev pub decreases-loop-at : goal.decreases-loop-at
decreases-loop-at l = length l.text - l.at
