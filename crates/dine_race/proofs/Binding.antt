-- Steps whose names were looked up are done as the steps say.
use Rattle.std.proofs.Common.{◌≡◌, ℕ, ◌+◌, ◌<◌, true, false, List, [], ◌∷◌, length, map, take, get_or, Option, Some, None, refl, sym, ap, ◌∙◌, subst, arith}
use Rattle.std.proofs.lemmas.List.{get_or-map, take_more}
use Rattle.std.proofs.lemmas.Bool.{false_from_ne_true}
use Rattle.std.proofs.lemmas.List.Folds.{list_any_at}
use Rattle.dine_words.specs.declared.task.Task.{Task}
use Rattle.dine_words.specs.declared.call.Call.{Call}
use Rattle.dine_words.specs.declared.call.Call.TheVariants as call
use Rattle.dine_lines.specs.declared.name.Name.{Name}
use Rattle.dine_lines.specs.Names.{Names, task_named}
use Rattle.dine_journal.specs.declared.hall.Answer.{Answer}
use Rattle.dine_front.specs.Passes.{Acted}
use Rattle.dine_scenario.specs.declared.scenario.NamedCall.TheVariants as named
use Rattle.dine_scenario.specs.declared.scenario.Step.{Step}
use Rattle.dine_scenario.specs.declared.scenario.Step.TheVariants as step
use Rattle.dine_race.specs.declared.bound.BoundStep.{BoundStep}
use Rattle.dine_race.specs.declared.bound.BoundStep.TheVariants as bound
use Rattle.dine_race.specs.BoundSteps.{HasDone, IsBoundPart, bound_by, bound_call, bound_look, bound_may_wait, bound_meal, joins, some_join}
use Rattle.dine_race.specs.StepKinds.{may_wait, some_may_wait}
use Rattle.dine_race.specs.Runners.{HasRun, Runner}
use Rattle.dine_race.specs.Runs.{IsMealIfBound, Made, call_named, names_after}
use Rattle.dine_race.proofs.Running.{has_run_then, made_one}

-- ---- parts

-- a meal of a name that was looked up is done as the step says
of_meal : (names : Names) (found : Option Task) (part : List Made) (after : Names)
    → IsBoundPart names (bound_meal found) part after → IsMealIfBound found part × (after ≡ names)
of_meal names None part after is = is
of_meal names (Some t) part after is = is

-- so is a look
of_look : (names : Names) (found : Option Task) (part : List Made) (after : Names)
    → IsBoundPart names (bound_look found) part after → (part ≡ []) × (after ≡ names)
of_look names None part after is = is
of_look names (Some t) part after is = is

-- ---- calls

-- a call that binds no name was made
pub did_call : (a now b : Runner) (asked : Call) (answer : Answer) → a ≡ now → Acted a.pass asked answer b.pass → b.names ≡ a.names → HasDone now (bound.Call asked) b
did_call a now b asked answer same acted kept = subst (λ (before : Runner). HasDone before (bound.Call asked) b) same (record {
  calls = (asked, answer.reply) ∷ [];
  made = made_one a.pass asked answer b.pass acted;
  part = (answer.reply, refl, kept);
})

-- a task was asked to join, and took the name where it did
pub did_join : (a now b : Runner) (name : Name) (answer : Answer) → a ≡ now → Acted a.pass call.Join answer b.pass → b.names ≡ names_after (named.Join name) answer.reply a.names → HasDone now (bound.Join name) b
did_join a now b name answer same acted takes = subst (λ (before : Runner). HasDone before (bound.Join name) b) same (record {
  calls = (call.Join, answer.reply) ∷ [];
  made = made_one a.pass call.Join answer b.pass acted;
  part = (answer.reply, refl, takes);
})

-- ---- names

-- a call that was looked up leaves the names
of_none : (names : Names) (found : Option Call) (part : List Made) (after : Names) → IsBoundPart names (bound_call found) part after → after ≡ names
of_none names None part after is = is.1
of_none names (Some asked) part after is = is.2

-- a step that joins nobody leaves the names
names_kept : (names : Names) (line : Step) (part : List Made) (after : Names) → joins line ≡ false → IsBoundPart names (bound_by names line) part after → after ≡ names
names_kept names (step.Call (named.Join name)) part after none is = cc
names_kept names (step.Call (named.OnOne asked name)) part after none is = of_none names (call_named names (named.OnOne asked name)) part after is
names_kept names (step.Call (named.OnTwo asked first second)) part after none is = of_none names (call_named names (named.OnTwo asked first second)) part after is
names_kept names (step.Eat name) part after none is = (of_meal names (task_named names name) part after is).1
names_kept names (step.Look name) part after none is = (of_look names (task_named names name) part after is).1

-- a step that doesn't join leaves the names
keeps_names : (a b : Runner) (line : Step) → joins line ≡ false → HasDone a (bound_by a.names line) b → b.names ≡ a.names
keeps_names a b line none done = names_kept a.names line done.calls b.names none done.part

-- ---- waits

-- a call never waits
of_call_waits : (found : Option Call) → bound_may_wait (bound_call found) ≡ true → false ≡ true
of_call_waits None waits = waits
of_call_waits (Some asked) waits = waits

-- nor does a look
of_look_waits : (found : Option Task) → bound_may_wait (bound_look found) ≡ true → false ≡ true
of_look_waits None waits = waits
of_look_waits (Some t) waits = waits

-- only a meal waits
pub waits_as_the_step : (names : Names) (line : Step) → bound_may_wait (bound_by names line) ≡ true → may_wait line ≡ true
waits_as_the_step names (step.Call (named.Join name)) waits = waits
waits_as_the_step names (step.Call (named.OnOne asked name)) waits = of_call_waits (call_named names (named.OnOne asked name)) waits
waits_as_the_step names (step.Call (named.OnTwo asked first second)) waits = of_call_waits (call_named names (named.OnTwo asked first second)) waits
waits_as_the_step names (step.Eat name) waits = refl
waits_as_the_step names (step.Look name) waits = of_look_waits (task_named names name) waits

-- ---- places

-- what was looked up at a place is the step there
pub bound_at : (names : Names) (lines : List Step) (bound : List BoundStep) (i : ℕ) (line : Step) (s : BoundStep)
    → bound ≡ map (bound_by names) lines → i < length lines → get_or bound i s ≡ bound_by names (get_or lines i line)
bound_at names lines bound i line s are inside = ap (λ l. get_or l i s) are ∙ get_or-map (bound_by names) lines i line s inside

-- a step that waits is one of those that may
pub some_step_waits : (names : Names) (lines : List Step) (bound : List BoundStep) (i : ℕ) (s : BoundStep)
    → bound ≡ map (bound_by names) lines → i < length lines → s ≡ get_or bound i s → bound_may_wait s ≡ true → some_may_wait lines ≡ true
some_step_waits names [] bound i s are inside is waits = absurd (omega arith)
some_step_waits names (x ∷ xs) bound i s are inside is waits =
    let at : s ≡ bound_by names (get_or (x ∷ xs) i x) = is ∙ bound_at names (x ∷ xs) bound i x s are inside in
    list_any_at may_wait (x ∷ xs) i x inside (waits_as_the_step names (get_or (x ∷ xs) i x) (ap bound_may_wait (sym at) ∙ waits))

-- a runner that has run the first lines, and the one at the next place
pub has_run_at : (a b c : Runner) (i : ℕ) (lines : List Step) → i < length lines → HasRun a (take i lines) b
    → ((line : Step) → HasRun b (get_or lines i line ∷ []) c) → HasRun a (take (i + 1) lines) c
has_run_at a b c i [] inside one other = absurd (omega arith)
has_run_at a b c i (x ∷ xs) inside one other =
    subst (λ l. HasRun a l c) (sym (take_more (x ∷ xs) i x inside)) (has_run_then a (take i (x ∷ xs)) b (get_or (x ∷ xs) i x ∷ []) c one (other x))

-- a step of those that don't join doesn't join
joins_nowhere : (lines : List Step) (i : ℕ) (line : Step) → i < length lines → some_join lines ≡ false → joins (get_or lines i line) ≡ false
joins_nowhere lines i line inside none =
    false_from_ne_true (joins (get_or lines i line)) (λ is. let no : true ≡ false = sym (list_any_at joins lines i line inside is) ∙ none in cc)

-- and has left the names, where no step joins
pub keeps_names_at : (a b : Runner) (lines : List Step) (bound : List BoundStep) (i : ℕ) (s : BoundStep)
    → some_join lines ≡ false → bound ≡ map (bound_by a.names) lines → i < length lines → s ≡ get_or bound i s → HasDone a s b → b.names ≡ a.names
keeps_names_at a b [] bound i s none are inside is done = absurd (omega arith)
keeps_names_at a b (x ∷ xs) bound i s none are inside is done =
    keeps_names a b (get_or (x ∷ xs) i x) (joins_nowhere (x ∷ xs) i x inside none)
    (subst (λ at. HasDone a at b) (is ∙ bound_at a.names (x ∷ xs) bound i x s are inside) done)
