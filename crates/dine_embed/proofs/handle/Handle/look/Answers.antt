-- The arbiter that is asked is the one that the handle held.
use Rattle.std.proofs.Common.{◌∙◌}
use Rattle.dine_embed.proofs.handle.Handle.look.Goals as goal

-- src/handle.rt:64:5
pub returns-clause-answer : goal.returns-clause-answer
returns-clause-answer g c = (c.deref.result, c.ask-answer.ensures, c.deref.ensures ∙ c.take-arbiter.ensures.value)
