use Rattle.std.proofs.Common.{ap}
use Rattle.dine_words.specs.declared.task.Task.{Task}
use Rattle.dine_table.proofs.Slots.{slots_differ}
use Rattle.dine_table.proofs.law.each_task_stands_once.Goals as goal

pub returns-clause-tasks_differ : goal.returns-clause-tasks_differ
returns-clause-tasks_differ c t sound i j d before inside same = slots_differ t sound i j d before inside (ap (λ (u : Task). u.slot) same)

pub returns-clause-slots_differ : goal.returns-clause-slots_differ
returns-clause-slots_differ c t sound = slots_differ t sound
