-- The most that anybody was overtaken in a history.
use Rattle.std.specs.Prelude.{ℕ, max, List, [], ◌∷◌, Option, Some, None}
use Rattle.std.specs.List.{filter_map}
use Rattle.dine_words.specs.declared.task.Task.{Task}
use Rattle.dine_words.specs.declared.call.Reply.{Reply}
use Rattle.dine_words.specs.declared.call.Reply.TheVariants.{Joined, Done, Refused}
use Rattle.dine_words.specs.declared.entry.Entry.{Entry}
use Rattle.dine_words.specs.declared.limits.Limits.{Limits}
use Rattle.dine_table.specs.History.{overtaken}

-- the name that the reply gives
abbrev pub name_given : Reply → Option Task
name_given (Joined u) = Some u
name_given Done = None
name_given (Refused refusal) = None

-- the tasks that joined
abbrev pub joined_tasks : List Entry → List Task
joined_tasks entries = filter_map (λ e. name_given e.reply) entries

-- the greatest that f gives of the items, 0 where there is none
abbrev pub greatest_of : {X : Type 0} → (X → ℕ) → List X → ℕ
greatest_of f [] = 0
greatest_of f (x ∷ xs) = max (f x) (greatest_of f xs)

-- the most meals that a task began in one hunger of another while they were in conflict, over all pairs of tasks that joined
abbrev pub most_overtaken : Limits → List Entry → ℕ
most_overtaken limits history =
    let tasks = joined_tasks history in
    greatest_of (λ u. greatest_of (λ v. overtaken limits history u v) tasks) tasks
