-- What the text of a scenario says, or the first of the checks that it fails.
use Rattle.std.specs.Prelude.{ℕ, ◌+◌, if◌then◌else◌, List, [], ◌∷◌, fold, Option, None, Result, Ok, Err}
use Rattle.std.specs.Option.{ok_or}
use Rattle.std.specs.Str.{is_utf8}
use Rattle.dine_lines.specs.declared.line_fault.LineFault.{LineFault}
use Rattle.toml.specs.Data.{Members}
use Rattle.toml.specs.Parse.{parse_document}
use Rattle.dine_scenario.specs.declared.scenario_fault.ScenarioFault.{ScenarioFault}
use Rattle.dine_scenario.specs.declared.scenario_fault.ScenarioFault.TheVariants as fault
use Rattle.dine_scenario.specs.declared.scenario.NamedCall.{NamedCall}
use Rattle.dine_scenario.specs.declared.scenario.Step.{Step}
use Rattle.dine_scenario.specs.Plan.{AskedPlan, WrittenPlan, WorkerPlan}
use Rattle.dine_scenario.specs.Form.{written_plan}
use Rattle.dine_scenario.specs.Asked.{◌>>=◌, setup_call, worker_step, known_after, known_after_step}

-- ---- lines

-- the result, with the fault of the line named
abbrev pub or_fault : {A : Type 0} → (LineFault → ScenarioFault) → Result A LineFault → Result A ScenarioFault
or_fault fault_of (Ok asked) = Ok asked
or_fault fault_of (Err kind) = Err (fault_of kind)

module _ {A : Type 0}
    (read : List (List ℕ) → List ℕ → Result A LineFault) (after : List (List ℕ) → A → List (List ℕ))
    (fault_at : ℕ → LineFault → ScenarioFault) where
  -- what the lines ask for, from line n on, where these names are known
  abbrev pub all_asked : ℕ → List (List ℕ) → List (List ℕ) → Result (List A) ScenarioFault
  all_asked n known [] = Ok []
  all_asked n known (line ∷ lines) = do
    first ← or_fault (fault_at n) (read known line)
    more ← all_asked (n + 1) (after known first) lines
    Ok (first ∷ more)

-- the calls of the setup
abbrev pub setup_asked : List (List ℕ) → Result (List NamedCall) ScenarioFault
setup_asked lines = all_asked setup_call known_after fault.Setup 1 [] lines

-- the steps of worker k
abbrev pub steps_asked : List (List ℕ) → ℕ → List (List ℕ) → Result (List Step) ScenarioFault
steps_asked known k lines = all_asked worker_step known_after_step (fault.Worker k) 1 known lines

-- worker k, which starts with the names that are known
abbrev pub worker_asked : List (List ℕ) → ℕ → WorkerPlan (List ℕ) → Result (WorkerPlan Step) ScenarioFault
worker_asked known k worker = do
  steps ← steps_asked known k worker.steps
  Ok (record { repeat = worker.repeat; steps = steps })

-- the workers from worker k on. Each starts with the names that are known
abbrev pub workers_asked :
    List (List ℕ) → ℕ → List (WorkerPlan (List ℕ)) → Result (List (WorkerPlan Step)) ScenarioFault
workers_asked known k [] = Ok []
workers_asked known k (worker ∷ workers) = do
  steps ← steps_asked known k worker.steps
  more ← workers_asked known (k + 1) workers
  Ok (record { repeat = worker.repeat; steps = steps } ∷ more)

-- the names that the calls of the setup join
abbrev pub known_after_all : List NamedCall → List (List ℕ)
known_after_all calls = fold known_after [] calls

-- what the lines of a scenario ask for
abbrev pub plan_asked : WrittenPlan → Result AskedPlan ScenarioFault
plan_asked plan = do
  setup ← setup_asked plan.setup
  workers ← workers_asked (known_after_all setup) 0 plan.workers
  Ok (record { tasks = plan.tasks; conflicts = plan.conflicts; setup = setup; workers = workers })

-- ---- texts

-- the document that a text is
abbrev pub document_of : List ℕ → Option Members
document_of text = if is_utf8 text then parse_document text else None

-- what a text says
abbrev pub scenario_of : List ℕ → Result AskedPlan ScenarioFault
scenario_of text = do
  document ← ok_or (document_of text) fault.Toml
  plan ← ok_or (written_plan document) fault.Scenario
  plan_asked plan
