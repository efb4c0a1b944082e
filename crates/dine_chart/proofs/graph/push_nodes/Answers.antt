use Rattle.dine_chart.proofs.Joining.{begins_before, of_error}
use Rattle.dine_chart.proofs.graph.push_nodes.Goals as goal

pub returns-in_err-push_node-clause-err : goal.returns-in_err-push_node-clause-err
returns-in_err-push_node-clause-err c = of_error _ _ (begins_before _ _ _ _ c.loop-task.invariant c.in_err-push_node.ensures.err)
