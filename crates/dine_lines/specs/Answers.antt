-- The texts of what a question is answered.
use Rattle.std.specs.Prelude.{ℕ, List, ◌++◌, codes, Option, Some, None}
use Rattle.std.specs.List.{flat_map}
use Rattle.dine_words.specs.declared.task.Task.{Task}
use Rattle.dine_words.specs.declared.task.State.{State}
use Rattle.dine_words.specs.Texts.{state_text, task_text}

-- the state of a task, or that it isn't present
abbrev pub state_or_none : Option State → List ℕ
state_or_none None = codes "none"
state_or_none (Some found) = state_text found

-- a task, or that there is none
abbrev pub task_or_none : Option Task → List ℕ
task_or_none None = codes "none"
task_or_none (Some t) = task_text t

-- a space and a name for each task; or that the task whose neighbours they are isn't present
abbrev pub tasks_or_none : Option (List Task) → List ℕ
tasks_or_none None = codes " none"
tasks_or_none (Some tasks) = flat_map (λ t. codes " " ++ task_text t) tasks
