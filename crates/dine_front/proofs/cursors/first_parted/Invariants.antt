use Rattle.dine_front.specs.Verdicts.{AllSettled}
use Rattle.dine_front.proofs.cursors.first_parted.Given as goal

-- each pass so far is settled
abbrev pub invariant-loop-number : goal.invariant-loop-number
invariant-loop-number g l = AllSettled l.number l.passes l.history
