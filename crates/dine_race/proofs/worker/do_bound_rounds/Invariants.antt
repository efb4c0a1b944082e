use Rattle.std.specs.Prelude.{◌≡◌, map}
use Rattle.dine_race.specs.BoundSteps.{bound_by}
use Rattle.dine_race.specs.Runners.{HasRun}
use Rattle.dine_race.specs.Runs.{repeated}
use Rattle.dine_race.proofs.worker.do_bound_rounds.Given as goal

-- the steps were done in each round so far, and are looked up by the names that are bound
abbrev pub invariant-loop-round : goal.invariant-loop-round
invariant-loop-round g l = record {
  run : HasRun l.initial.runner (repeated l._round l.worker.steps.items) l.runner;
  bound : l.bound.items ≡ map (bound_by l.runner.names) l.worker.steps.items;
}
