-- What the workers of a race hand back.
use Rattle.std.specs.Prelude.{Bool, List, [], ◌∷◌}
use Rattle.dine_scenario.specs.declared.scenario.Worker.{Worker}
use Rattle.dine_front.specs.Passes.{Pass}
use Rattle.dine_lines.specs.Names.{Names}
use Rattle.dine_race.specs.StepKinds.{some_may_wait}
use Rattle.dine_race.specs.Runs.{repeated}
use Rattle.dine_race.specs.Runners.{Runner, HandsBack}

-- a worker at work: who carries out its steps, as it was at first, and what the worker has to do
pub record Work : Type 0 where
  pub before : Runner
  pub worker : Worker

-- the work is done, and this pass is handed back
abbrev pub IsWorkDone : Work → Pass → Type 0
IsWorkDone work pass = HandsBack work.before (repeated work.worker.repeat work.worker.steps.items) pass

-- a worker that may have to wait for others' meals
abbrev pub worker_may_wait : Worker → Bool
worker_may_wait worker = some_may_wait worker.steps.items

-- work of such a worker
abbrev pub work_may_wait : Work → Bool
work_may_wait work = worker_may_wait work.worker

-- the work of a worker that has this pass, and these names at first
abbrev pub work_with : Names → Pass → Worker → Work
work_with names pass worker = record { before = record { pass = pass; names = names }; worker = worker }

-- the works of workers with these passes, each in order, and with these names at first
abbrev pub works_with : Names → List Pass → List Worker → List Work
works_with names [] workers = []
works_with names (pass ∷ passes) [] = []
works_with names (pass ∷ passes) (worker ∷ workers) = work_with names pass worker ∷ works_with names passes workers

-- each work is done, and the passes are those that are handed back, in order
abbrev pub AreDone : List Work → List Pass → Type 0
AreDone [] [] = Unit {0}
AreDone [] (pass ∷ passes) = ⊥
AreDone (work ∷ works) [] = ⊥
AreDone (work ∷ works) (pass ∷ passes) = IsWorkDone work pass × AreDone works passes
