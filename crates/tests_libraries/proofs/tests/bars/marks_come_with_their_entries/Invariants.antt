use Rattle.std.proofs.Common.{◌≡◌}
use Rattle.tests_libraries.proofs.tests.bars.marks_come_with_their_entries.Given as goal

-- the drawing has taken in as many entries as were looked at
abbrev pub invariant-loop-place : goal.invariant-loop-place
invariant-loop-place g l = l.drawing.place ≡ l.place
