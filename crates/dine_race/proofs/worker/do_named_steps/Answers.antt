use Rattle.std.proofs.Common.{arith}
use Rattle.dine_race.proofs.Running.{has_run_next}
use Rattle.dine_race.proofs.worker.do_named_steps.Goals as goal

pub loop-step-preserved : goal.loop-step-preserved
loop-step-preserved g c = record {
  run = has_run_next _ _ _ c.loop-step.step-index c.args.steps.now c.step-item.result (omega arith) c.step-item.is c.loop-step.invariant.run c.in_ok-take.ensures.run;
  count = omega arith;
}
