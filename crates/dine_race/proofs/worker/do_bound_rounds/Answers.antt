use Rattle.std.proofs.Common.{◌≡◌, ◌∙◌, ℕ, ap, arith, map, subst, sym}
use Rattle.dine_lines.specs.Names.{Names}
use Rattle.dine_race.specs.BoundSteps.{bound_by}
use Rattle.dine_race.specs.Runners.{HasRun}
use Rattle.dine_race.specs.Runs.{repeated}
use Rattle.dine_race.proofs.Running.{has_run_again}
use Rattle.dine_race.proofs.worker.do_bound_rounds.Goals as goal

pub loop-round-preserved : goal.loop-round-preserved
loop-round-preserved g c = record {
  run = has_run_again _ _ _ c.loop-round._round c.args.worker.now.steps.items c.loop-round.invariant.run c.in_ok-count.ensures.run;
  bound =
      c.loop-round.invariant.bound
      ∙ ap (λ (names : Names). map (bound_by names) c.args.worker.now.steps.items) (sym c.in_ok-count.ensures.names);
}

pub returns-clause-done : goal.returns-clause-done
returns-clause-done g c =
    let same : c.loop-round._round ≡ c.args.worker.now.repeat = omega arith in
    subst (λ (n : ℕ). HasRun c.args.runner.now (repeated n c.args.worker.now.steps.items) c.loop-round.runner) same c.loop-round.invariant.run
