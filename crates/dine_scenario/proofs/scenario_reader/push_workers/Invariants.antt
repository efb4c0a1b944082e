use Rattle.std.proofs.Common.{◌≡◌, map, drop, vec_len}
use Rattle.dine_scenario.specs.Forms.{worker_form_plan}
use Rattle.dine_scenario.specs.Plan.{worker_plan}
use Rattle.dine_scenario.specs.Scenarios.{workers_asked}
use Rattle.dine_scenario.proofs.Progress.{read_before}
use Rattle.dine_scenario.proofs.scenario_reader.push_workers.Given as goal

-- the workers so far, and then those that are left, are all
abbrev pub invariant-loop-index : goal.invariant-loop-index
invariant-loop-index l = record {
  read : workers_asked l.known 0 (map worker_form_plan l.forms) ≡ read_before (map worker_plan l.workers.items) (workers_asked l.known l.index (map worker_form_plan (drop l.index l.forms)));
  len : vec_len l.workers ≡ l.index;
}
