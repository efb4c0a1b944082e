use Rattle.std.proofs.Common.{◌≡◌, ◌+◌, drop}
use Rattle.dine_scenario.specs.declared.scenario_fault.ScenarioFault.TheVariants.{Setup}
use Rattle.dine_scenario.specs.Asked.{known_after, setup_call}
use Rattle.dine_scenario.specs.Lent.{lent}
use Rattle.dine_scenario.specs.Scenarios.{all_asked, known_after_all, setup_asked}
use Rattle.dine_scenario.proofs.Progress.{read_before}
use Rattle.dine_scenario.proofs.scenario_reader.read_setup.Given as goal

-- the calls so far, and then those of the lines that are left, are all
abbrev pub invariant-loop-index : goal.invariant-loop-index
invariant-loop-index l = record {
  read : setup_asked (lent l.lines) ≡ read_before l.calls.items (all_asked setup_call known_after Setup (l.index + 1) l.known (lent (drop l.index l.lines)));
  known : l.known ≡ known_after_all l.calls.items;
}
