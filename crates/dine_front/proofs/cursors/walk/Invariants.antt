use Rattle.dine_front.specs.Cursors.{AllFollow}
use Rattle.dine_front.proofs.cursors.walk.Given as goal

-- each cursor was moved over the entries so far
abbrev pub invariant-loop-place : goal.invariant-loop-place
invariant-loop-place g l = AllFollow l.count l.passes l.history l.place l.cursors
