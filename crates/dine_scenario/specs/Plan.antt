-- What a scenario consists of: as lines that are written, or as what they ask for.
use Rattle.std.specs.Prelude.{ℕ, List, map}
use Rattle.dine_scenario.specs.declared.scenario.NamedCall.{NamedCall}
use Rattle.dine_scenario.specs.declared.scenario.Scenario.{Scenario}
use Rattle.dine_scenario.specs.declared.scenario.Step.{Step}
use Rattle.dine_scenario.specs.declared.scenario.Worker.{Worker}

-- a worker: how often it does its steps, and the steps
pub record WorkerPlan (S : Type 0) : Type 0 where
  pub repeat : ℕ
  pub steps : List S

-- a scenario: the limits' two numbers, the setup and the workers
pub record Plan (C S : Type 0) : Type 0 where
  pub tasks : ℕ
  pub conflicts : ℕ
  pub setup : List C
  pub workers : List (WorkerPlan S)

-- a scenario as its lines are written
abbrev pub WrittenPlan : Type 0
WrittenPlan = Plan (List ℕ) (List ℕ)

-- a scenario as what its lines ask for
abbrev pub AskedPlan : Type 0
AskedPlan = Plan NamedCall Step

-- what is seen of a worker
abbrev pub worker_plan : Worker → WorkerPlan Step
worker_plan worker = record { repeat = worker.repeat; steps = worker.steps.items }

-- what is seen of a scenario
abbrev pub plan_in : Scenario → AskedPlan
plan_in scenario =
    record {
      tasks = scenario.limits.tasks;
      conflicts = scenario.limits.conflicts;
      setup = scenario.setup.items;
      workers = map worker_plan scenario.workers.items;
    }
