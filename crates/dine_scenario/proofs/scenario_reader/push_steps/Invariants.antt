use Rattle.std.proofs.Common.{◌≡◌, ◌+◌, drop}
use Rattle.dine_scenario.specs.declared.scenario_fault.ScenarioFault.TheVariants.{Worker}
use Rattle.dine_scenario.specs.Asked.{known_after_step, worker_step}
use Rattle.dine_scenario.specs.Lent.{lent}
use Rattle.dine_scenario.specs.Scenarios.{all_asked, steps_asked}
use Rattle.dine_scenario.proofs.Progress.{read_before}
use Rattle.dine_scenario.proofs.scenario_reader.push_steps.Given as goal

-- the steps so far, and then those of the lines that are left, are all
abbrev pub invariant-loop-index : goal.invariant-loop-index
invariant-loop-index l =
    steps_asked l.initial.known l.worker (lent l.lines) ≡ read_before l.steps.items (all_asked worker_step known_after_step (Worker l.worker) (l.index + 1) l.known (lent (drop l.index l.lines)))
