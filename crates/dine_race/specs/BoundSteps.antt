-- Steps whose names were looked up, and what is done for them.
use Rattle.std.specs.Prelude.{◌≡◌, Bool, true, false, List, [], ◌∷◌, Option, Some, None}
use Rattle.std.specs.List.{list_any}
use Rattle.dine_words.specs.declared.task.Task.{Task}
use Rattle.dine_words.specs.declared.call.Call.{Call}
use Rattle.dine_words.specs.declared.call.Call.TheVariants as call
use Rattle.dine_words.specs.declared.call.Reply.{Reply}
use Rattle.dine_lines.specs.Names.{Names, task_named}
use Rattle.dine_scenario.specs.declared.scenario.NamedCall.TheVariants as named
use Rattle.dine_scenario.specs.declared.scenario.Step.{Step}
use Rattle.dine_scenario.specs.declared.scenario.Step.TheVariants as step
use Rattle.dine_race.specs.declared.bound.BoundStep.{BoundStep}
use Rattle.dine_race.specs.declared.bound.BoundStep.TheVariants as bound
use Rattle.dine_race.specs.Runners.{MadeCalls, Runner}
use Rattle.dine_race.specs.Runs.{IsMeal, Made, call_named, names_after}

-- the call, if there is one
abbrev pub bound_call : Option Call → BoundStep
bound_call None = bound.Nothing
bound_call (Some asked) = bound.Call asked

-- a meal of the task, if there is one
abbrev pub bound_meal : Option Task → BoundStep
bound_meal None = bound.Nothing
bound_meal (Some t) = bound.Eat t

-- a look at the task, if there is one
abbrev pub bound_look : Option Task → BoundStep
bound_look None = bound.Nothing
bound_look (Some t) = bound.Look t

-- the step, by the names that are bound so far
abbrev pub bound_by : Names → Step → BoundStep
bound_by names (step.Call (named.Join name)) = bound.Join name
bound_by names (step.Call (named.OnOne asked name)) = bound_call (call_named names (named.OnOne asked name))
bound_by names (step.Call (named.OnTwo asked first second)) =
    bound_call (call_named names (named.OnTwo asked first second))
bound_by names (step.Eat name) = bound_meal (task_named names name)
bound_by names (step.Look name) = bound_look (task_named names name)

-- a step that joins, and so binds its name
abbrev pub joins : Step → Bool
joins (step.Call (named.Join name)) = true
joins (step.Call (named.OnOne asked name)) = false
joins (step.Call (named.OnTwo asked first second)) = false
joins (step.Eat name) = false
joins (step.Look name) = false

-- steps of which one joins
abbrev pub some_join : List Step → Bool
some_join = list_any joins

-- a step that may have to wait for others' meals
abbrev pub bound_may_wait : BoundStep → Bool
bound_may_wait (bound.Join name) = false
bound_may_wait (bound.Call asked) = false
bound_may_wait (bound.Eat t) = true
bound_may_wait (bound.Look t) = false
bound_may_wait bound.Nothing = false

-- the calls that are made for the step, with their replies, and the names after it
abbrev pub IsBoundPart : Names → BoundStep → List Made → Names → Type 0
IsBoundPart names (bound.Join name) part after =
    (reply : Reply) × (part ≡ (call.Join, reply) ∷ []) × (after ≡ names_after (named.Join name) reply names)
IsBoundPart names (bound.Call asked) part after = (reply : Reply) × (part ≡ (asked, reply) ∷ []) × (after ≡ names)
IsBoundPart names (bound.Eat t) part after = IsMeal t part × (after ≡ names)
IsBoundPart names (bound.Look t) part after = (part ≡ []) × (after ≡ names)
IsBoundPart names bound.Nothing part after = (part ≡ []) × (after ≡ names)

-- the runner has done the step
pub record HasDone (before : Runner) (step : BoundStep) (after : Runner) : Type 0 where
  pub calls : List Made
  pub made : MadeCalls before.pass calls after.pass
  pub part : IsBoundPart before.names step calls after.names
