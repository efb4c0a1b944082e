use Rattle.dine_arbiter.proofs.After.{kept-opening}
use Rattle.dine_arbiter.proofs.arbiter.Arbiter.new.Goals as goal

pub invariant_of-result : goal.invariant_of-result
invariant_of-result c = kept-opening c.args.limits c.in_ok-new.field-0 c.in_ok-new-2.field-0 c.in_ok-new.ensures c.in_ok-new-2.ensures
