use Rattle.dine_chart.proofs.Joining.{begins_before, of_error}
use Rattle.dine_chart.proofs.escape.push_text.Goals as goal

pub returns-in_err-push_in-clause-err : goal.returns-in_err-push_in-clause-err
returns-in_err-push_in-clause-err c = of_error _ _ (begins_before _ _ _ _ c.loop-byte.invariant c.in_err-push_in.ensures.err)
