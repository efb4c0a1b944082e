use Rattle.std.proofs.Common.{◌≡◌, ℕ, arith, List, subst}
use Rattle.dine_scenario.specs.declared.scenario.Step.{Step}
use Rattle.dine_race.specs.Runners.{HasRun}
use Rattle.dine_race.specs.Runs.{repeated}
use Rattle.dine_race.proofs.Running.{has_run_again}
use Rattle.dine_race.proofs.worker.do_rounds.Goals as goal

pub loop-round-preserved : goal.loop-round-preserved
loop-round-preserved g c =
    has_run_again _ _ _ c.loop-round._round c.args.worker.now.steps.items c.loop-round.invariant
    (subst (λ (lines : List Step). HasRun c.loop-round.runner lines c.do_named_steps.new.runner) c.deref-in-loop-round.ensures.value c.in_ok-count.ensures.run)

pub returns-clause-done : goal.returns-clause-done
returns-clause-done g c =
    let same : c.loop-round._round ≡ c.args.worker.now.repeat = omega arith in
    subst (λ (n : ℕ). HasRun c.args.runner.now (repeated n c.args.worker.now.steps.items) c.loop-round.runner) same c.loop-round.invariant
