use Rattle.std.proofs.Common.{◌≡◌, map, drop, vec_len}
use Rattle.toml.specs.View.{items_view}
use Rattle.dine_scenario.specs.Form.{each_worker}
use Rattle.dine_scenario.specs.Forms.{worker_form_plan}
use Rattle.dine_scenario.proofs.Progress.{found_before}
use Rattle.dine_scenario.proofs.table_form.WorkerForm.read_each.Given as goal

-- the workers so far, and then those that are left, are all
abbrev pub invariant-loop-value : goal.invariant-loop-value
invariant-loop-value l = record {
  found : each_worker (items_view l.values) ≡ found_before (map worker_form_plan l.workers.items) (each_worker (items_view (drop l.value-index l.values)));
  len : vec_len l.workers ≡ l.value-index;
}
