use Rattle.std.proofs.Common.{arith}
use Rattle.std.proofs.lemmas.Grind.{common_steps}
use Rattle.std.proofs.lemmas.List.Edits.{map_over_more}
use Rattle.dine_table.specs.Calls.{diner_put_in}
use Rattle.dine_journal.proofs.plain.order.set_state.Goals as goal

pub loop-diner-preserved : goal.loop-diner-preserved
loop-diner-preserved c = grind (arith, common_steps, map_over_more (diner_put_in c.args.state c.args.task))
