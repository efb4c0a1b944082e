use Rattle.dine_chart.proofs.Joining.{begins_before, of_error}
use Rattle.dine_chart.proofs.page.push_rows.Goals as goal

pub returns-in_err-push_row-clause-err : goal.returns-in_err-push_row-clause-err
returns-in_err-push_row-clause-err c = of_error _ _ (begins_before _ _ _ _ c.loop-lane.invariant c.in_err-push_row.ensures.err)
