use Rattle.dine_chart.proofs.Joining.{begins_before, of_error}
use Rattle.dine_chart.proofs.Outcomes.{on_err}
use Rattle.dine_chart.proofs.graph.push_node.Goals as goal

pub returns-in_err-push-clause-err : goal.returns-in_err-push-clause-err
returns-in_err-push-clause-err c = of_error _ _ c.in_err-push.ensures.err

pub returns-in_err-push_node_name-clause-err : goal.returns-in_err-push_node_name-clause-err
returns-in_err-push_node_name-clause-err c = of_error _ _ (begins_before _ _ _ _ c.in_ok-push.ensures.ok c.in_err-push_node_name.ensures.err)

pub returns-in_err-push-2-clause-err : goal.returns-in_err-push-2-clause-err
returns-in_err-push-2-clause-err c =
    of_error _ _ (begins_before _ _ _ _ c.in_ok-push.ensures.ok (begins_before _ _ _ _ c.in_ok-push_node_name.ensures.ok c.in_err-push-2.ensures.err))

pub returns-in_err-push_name_in-clause-err : goal.returns-in_err-push_name_in-clause-err
returns-in_err-push_name_in-clause-err c =
    of_error _ _
    (begins_before _ _ _ _ c.in_ok-push.ensures.ok (begins_before _ _ _ _ c.in_ok-push_node_name.ensures.ok (begins_before _ _ _ _ c.in_ok-push-2.ensures.ok c.in_err-push_name_in.ensures.err)))

pub returns-clause-err : goal.returns-clause-err
returns-clause-err c =
    on_err _ _ c.push-3.result
    (λ begins. begins_before _ _ _ _ c.in_ok-push.ensures.ok (begins_before _ _ _ _ c.in_ok-push_node_name.ensures.ok (begins_before _ _ _ _ c.in_ok-push-2.ensures.ok (begins_before _ _ _ _ c.in_ok-push_name_in.ensures.ok begins))))
    c.push-3.ensures.err
