use Rattle.dine_chart.proofs.Joining.{begins_before, of_error}
use Rattle.dine_chart.proofs.svg.layers.push_layer.Goals as goal

pub returns-in_err-push_drawn-clause-err : goal.returns-in_err-push_drawn-clause-err
returns-in_err-push_drawn-clause-err c = of_error _ _ (begins_before _ _ _ _ c.loop-mark.invariant c.in_err-push_drawn.ensures.err)
