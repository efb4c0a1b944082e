-- The lines that may have to wait, and those that look.
use Rattle.std.specs.Prelude.{Bool, List, true, false}
use Rattle.std.specs.List.{list_any}
use Rattle.dine_scenario.specs.declared.scenario.Step.{Step}
use Rattle.dine_scenario.specs.declared.scenario.Worker.{Worker}
use Rattle.dine_scenario.specs.declared.scenario.Step.TheVariants as step

-- a line that may have to wait for others' meals
abbrev pub may_wait : Step → Bool
may_wait (step.Call line) = false
may_wait (step.Eat name) = true
may_wait (step.Look name) = false

-- lines of which one may have to wait
abbrev pub some_may_wait : List Step → Bool
some_may_wait = list_any may_wait

-- a line that looks
abbrev pub looks : Step → Bool
looks (step.Call line) = false
looks (step.Eat name) = false
looks (step.Look name) = true

-- a worker with such a line among its steps
abbrev pub worker_looks : Worker → Bool
worker_looks worker = list_any looks worker.steps.items
