-- A fault of a scenario as it stands in output.
use Rattle.std.specs.Prelude.{ℕ, List, ◌++◌, codes, decimal}
use Rattle.dine_lines.specs.Faults.{fault_text}
use Rattle.dine_scenario.specs.declared.scenario_fault.ScenarioFault.{ScenarioFault}
use Rattle.dine_scenario.specs.declared.scenario_fault.ScenarioFault.TheVariants as fault

-- a fault of a scenario, without its line feed
abbrev pub scenario_fault_text : ScenarioFault → List ℕ
scenario_fault_text fault.Toml = codes "fault toml"
scenario_fault_text fault.Scenario = codes "fault scenario"
scenario_fault_text (fault.Setup n kind) = codes "fault setup " ++ decimal n ++ codes " " ++ fault_text kind
scenario_fault_text (fault.Worker k n kind) =
    codes "fault worker " ++ decimal k ++ codes " step " ++ decimal n ++ codes " " ++ fault_text kind
scenario_fault_text fault.Memory = codes "fault memory"
