use Rattle.dine_race.specs.Runners.{HasRun}
use Rattle.dine_race.specs.Runs.{repeated}
use Rattle.dine_race.proofs.worker.do_rounds.Given as goal

-- the steps were done in each round so far
abbrev pub invariant-loop-round : goal.invariant-loop-round
invariant-loop-round g l = HasRun l.initial.runner (repeated l._round l.worker.steps.items) l.runner
