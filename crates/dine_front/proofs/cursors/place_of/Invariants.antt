use Rattle.std.specs.Prelude.{◌≡◌, take, None}
use Rattle.dine_front.specs.Mine.{receipts_of}
use Rattle.dine_front.proofs.cursors.place_of.Given as goal

-- no pass so far has the number
abbrev pub invariant-loop-at : goal.invariant-loop-at
invariant-loop-at g l = receipts_of l.number (take l.at l.passes) ≡ None
