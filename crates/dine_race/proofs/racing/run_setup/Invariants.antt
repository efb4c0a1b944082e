use Rattle.std.proofs.Common.{take}
use Rattle.dine_race.specs.Runners.{HasRun}
use Rattle.dine_race.specs.Runs.{lines_of_setup}
use Rattle.dine_race.proofs.racing.run_setup.Given as goal

-- the lines so far were run
abbrev pub invariant-loop-line : goal.invariant-loop-line
invariant-loop-line g l = HasRun l.initial.runner (lines_of_setup (take l.line-index l.setup)) l.runner
