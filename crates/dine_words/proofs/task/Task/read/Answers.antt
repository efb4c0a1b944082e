use Rattle.std.proofs.Common.{◌∙◌, ap}
use Rattle.dine_words.specs.Reading.{task_at, whole}
use Rattle.dine_words.proofs.Spelling.{task-found, task-only}
use Rattle.dine_words.proofs.task.Task.read.Goals as goal

pub returns : goal.returns
returns c =
    let read = c.whole_task.ensures ∙ ap (λ b. whole (task_at b)) c.as_bytes.ensures.value in
    record {
      found = task-found c.args.text.now c.whole_task.result read;
      only = λ x fits same. read ∙ task-only x c.args.text.now fits same;
    }
