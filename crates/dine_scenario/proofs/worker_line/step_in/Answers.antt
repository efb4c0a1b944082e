use Rattle.std.proofs.Common.{rules, ◌≡◌, ℕ, List, Option, Some, None, option_map, Result, Ok, Err, refl, sym, ap, ◌∙◌, inl, inr}
use Rattle.std.proofs.lemmas.Bool.{cases_Bool}
use Rattle.std.specs.List.{list_all}
use Rattle.std.specs.Option.{option_or}
use Rattle.dine_lines.specs.declared.line_fault.LineFault.{LineFault}
use Rattle.dine_lines.specs.Names.{is_name}
use Rattle.dine_scenario.specs.declared.scenario.NamedCall.{NamedCall}
use Rattle.dine_scenario.specs.declared.scenario.Step.{Step}
use Rattle.dine_scenario.specs.declared.scenario.Step.TheVariants as step
use Rattle.dine_scenario.specs.Asked.{call_asked, meal_or_look, if_named, names_of_call, names_of_step, step_asked}
use Rattle.dine_scenario.specs.Cut.{words_seen}
use Rattle.dine_scenario.proofs.worker_line.step_in.Goals as goal
use Rattle.dine_scenario.proofs.worker_line.step_in.Goals.{in-One+else-eq+else-eq-2, in_default}

-- a call as a step
abbrev as_step : Result NamedCall LineFault → Result Step LineFault
as_step (Ok call) = Ok (step.Call call)
as_step (Err kind) = Err kind

-- a call has the names that it has as a step
named_as_step : (o : Option NamedCall) → as_step (if_named names_of_call o) ≡ if_named names_of_step (option_map step.Call o)
named_as_step None = refl
named_as_step (Some call) =
    elim (cases_Bool (list_all is_name (names_of_call call))) [
      | inl are ↦ simp are
      | inr other ↦ simp other
    ]

-- words that ask for no meal and no look ask for a step where they ask for a call
asked_as_step : (words : List (List ℕ)) (call : NamedCall) → meal_or_look words ≡ None → Ok call ≡ if_named names_of_call (call_asked words) → Ok (step.Call call) ≡ if_named names_of_step (step_asked words)
asked_as_step words call none ok =
    ap as_step ok
    ∙ named_as_step (call_asked words)
    ∙ sym (ap (λ (o : Option Step). if_named names_of_step (option_or o (option_map step.Call (call_asked words)))) none)

pub returns : goal.returns
returns c =
    asked_as_step (words_seen c.args.words) c.in_ok-call_in.field-0
    (elim c.match-words.branch [ in-One+else-eq+else-eq-2 w ↦ search rules | in_default w ↦ search rules ])
    c.in_ok-call_in.ensures
