use Rattle.std.proofs.Common.{◌∙◌, arith}
use Rattle.dine_race.proofs.Binding.{has_run_at}
use Rattle.dine_race.proofs.worker.do_bound_steps.Goals as goal

pub loop-place-preserved : goal.loop-place-preserved
loop-place-preserved g c = record {
  run = has_run_at _ _ _ c.loop-place.place c.args.steps.now.items (omega arith) c.loop-place.invariant.run c.in_ok-do_bound_step.ensures.run;
  count = omega arith;
  names = c.in_ok-do_bound_step.ensures.names ∙ c.loop-place.invariant.names;
}
