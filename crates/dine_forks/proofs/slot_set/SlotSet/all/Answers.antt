use Rattle.dine_forks.proofs.Lemmas.{all-true, arith}
use Rattle.dine_forks.proofs.slot_set.SlotSet.all.Goals as goal

pub returns : goal.returns
returns c = all-true c.loop-slot.set c.args.slots c.loop-slot.invariant.len (λ k below. c.loop-slot.invariant.in_it k (omega arith))
