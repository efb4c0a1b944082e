use Rattle.std.proofs.Common.{◌≡◌, ◌++◌, codes, take}
use Rattle.std.specs.List.{flat_map}
use Rattle.dine_words.specs.Texts.{task_text}
use Rattle.dine_lines.proofs.question_answer.push_tasks.Given as goal

-- the tasks so far are in the text
abbrev pub invariant-loop-task : goal.invariant-loop-task
invariant-loop-task l =
    l.out.items ≡ l.initial.out.items ++ flat_map (λ t. codes " " ++ task_text t) (take l.task-index l.tasks)
