-- What a call that may run out of memory returned, beside what a definition says.
use Rattle.std.specs.Prelude.{◌≡◌, ◌≢◌, Option, Some, None, Result, Ok, Err}
use Rattle.dine_scenario.specs.declared.scenario_fault.ScenarioFault.{ScenarioFault}
use Rattle.dine_scenario.specs.declared.scenario_fault.ScenarioFault.TheVariants.{Memory, Scenario}

-- what was returned, seen by view, is what the definition says, or else memory ran out
abbrev pub Reads : {A B : Type 0} → (A → B) → Result A ScenarioFault → Result B ScenarioFault → Type 0
Reads view (Ok x) said = said ≡ Ok (view x)
Reads view (Err e) said = e ≢ Memory → said ≡ Err e

-- the same for a part of a scenario's form, where what the definition finds not is a fault of the form
abbrev pub FindsForm : {A B : Type 0} → (A → B) → Result A ScenarioFault → Option B → Type 0
FindsForm view (Ok x) found = found ≡ Some (view x)
FindsForm view (Err e) found = e ≢ Memory → (e ≡ Scenario) × (found ≡ None)
