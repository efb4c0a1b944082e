use Rattle.dine_bars.proofs.Entries.{IsOnTheWay}
use Rattle.dine_bars.proofs.drawing.take_in_all.Given as goal

-- the entries so far are taken in, and the marks are theirs
abbrev pub invariant-loop-place : goal.invariant-loop-place
invariant-loop-place l = IsOnTheWay l.journal.limits l.journal.entries l.place l.drawing l.marks.items
