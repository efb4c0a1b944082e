use Rattle.dine_arbiter.proofs.Lemmas.{carried-begin, left}
use Rattle.dine_arbiter.proofs.arbiter.Arbiter.begin.Goals as goal

pub invariant_of-self : goal.invariant_of-self
invariant_of-self c = rw (c.take_in_use.ensures, c.set_state.ensures) (left c.self.inside c.self.view_is c.self.invariant (carried-begin c.self.inside c.self.invariant c.args.task) c.requires.accepted).kept

pub returns : goal.returns
returns c = rw (c.take_in_use.ensures, c.set_state.ensures) (left c.self.inside c.self.view_is c.self.invariant (carried-begin c.self.inside c.self.invariant c.args.task) c.requires.accepted).done
