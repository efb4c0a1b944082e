use Rattle.std.proofs.Common.{arith, length-set, sym, ◌∙◌}
use Rattle.dine_front.proofs.Waited.{noted}
use Rattle.dine_front.proofs.waiting.Waiting.note.Goals as goal

-- somebody waits now
pub invariant_of-self : goal.invariant_of-self
invariant_of-self c = (
  length-set c.self.inside.tasks c.args.number _ ∙ c.self.invariant.0,
  sym (noted c.self.inside.tasks c.args.number c.args.task (omega (arith, c.self.invariant.0, c.requires))),
)
