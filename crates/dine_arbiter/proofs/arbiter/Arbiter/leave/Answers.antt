use Rattle.dine_arbiter.proofs.Lemmas.{carried-leave, left, seated_in, state-seated}
use Rattle.dine_words.specs.declared.task.State.TheVariants.{Thinking}
use Rattle.dine_arbiter.proofs.arbiter.Arbiter.leave.Goals as goal

pub vacate-requires-clause-thinks : goal.vacate-requires-clause-thinks
vacate-requires-clause-thinks c = state-seated c.self.inside.seats c.args.task Thinking (seated_in c.self.inside c.self.view_is c.self.invariant c.args.task Thinking c.requires.accepted)

pub invariant_of-self : goal.invariant_of-self
invariant_of-self c = rw (c.vacate.ensures, c.unlink_around.ensures) (left c.self.inside c.self.view_is c.self.invariant (carried-leave c.self.inside c.self.invariant c.args.task) c.requires.accepted).kept

pub returns : goal.returns
returns c = rw (c.vacate.ensures, c.unlink_around.ensures) (left c.self.inside c.self.view_is c.self.invariant (carried-leave c.self.inside c.self.invariant c.args.task) c.requires.accepted).done
