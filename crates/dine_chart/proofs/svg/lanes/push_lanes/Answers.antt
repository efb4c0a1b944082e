use Rattle.dine_chart.proofs.Joining.{begins_before, of_error}
use Rattle.dine_chart.proofs.svg.lanes.push_lanes.Goals as goal

pub returns-in_err-push_lane-clause-err : goal.returns-in_err-push_lane-clause-err
returns-in_err-push_lane-clause-err c = of_error _ _ (begins_before _ _ _ _ c.loop-lane.invariant c.in_err-push_lane.ensures.err)
