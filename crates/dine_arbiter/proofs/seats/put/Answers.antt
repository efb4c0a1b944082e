use Rattle.dine_arbiter.proofs.Lemmas.{arith, map-set_same, common_steps, map-set, is_hungry}
use Rattle.dine_words.specs.declared.task.State.TheVariants.{Thinking}
use Rattle.dine_arbiter.proofs.seats.put.Goals as goal

pub returns-then-eq-clause-told : goal.returns-then-eq-clause-told
returns-then-eq-clause-told c = grind (arith, common_steps, map-set is_hungry c.args.by_slot.now.items c.args.slot c.args.state)

pub returns-then-eq-2-clause-told : goal.returns-then-eq-2-clause-told
returns-then-eq-2-clause-told c = grind (arith, common_steps, map-set is_hungry c.args.by_slot.now.items c.args.slot c.args.state)

pub returns-else-eq-2-clause-told : goal.returns-else-eq-2-clause-told
returns-else-eq-2-clause-told c = grind (arith, common_steps, map-set_same is_hungry c.args.by_slot.now.items c.args.slot c.args.state Thinking)
