-- What is seen of the forms of a scenario and of a worker.
use Rattle.std.specs.Prelude.{ℕ, List, map}
use Rattle.dine_scenario.specs.declared.table_form.Form.{Form}
use Rattle.dine_scenario.specs.declared.table_form.WorkerForm.{WorkerForm}
use Rattle.dine_scenario.specs.Lent.{lent}
use Rattle.dine_scenario.specs.Plan.{WorkerPlan, WrittenPlan}

-- what is seen of the form of a worker
abbrev pub worker_form_plan : WorkerForm → WorkerPlan (List ℕ)
worker_form_plan form = record { repeat = form.repeat; steps = lent form.steps.items }

-- what is seen of the form of a scenario
abbrev pub form_plan : Form → WrittenPlan
form_plan form =
    record {
      tasks = form.limits.tasks;
      conflicts = form.limits.conflicts;
      setup = lent form.setup.items;
      workers = map worker_form_plan form.workers.items;
    }
