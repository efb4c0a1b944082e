use Rattle.dine_chart.proofs.Joining.{begins_before, of_error}
use Rattle.dine_chart.proofs.graph.push_edges_to.Goals as goal

pub returns-in_err-push_edge_if-clause-err : goal.returns-in_err-push_edge_if-clause-err
returns-in_err-push_edge_if-clause-err c = of_error _ _ (begins_before _ _ _ _ c.loop-neighbour.invariant c.in_err-push_edge_if.ensures.err)
