-- Which tasks of a scheduler run.
use Rattle.std.specs.Prelude.{◌≡◌, ℕ, Bool, List, length}
use Rattle.std.specs.List.{filter, list_any}
use Rattle.dine_words.specs.declared.task.Task.{Task}
use Rattle.dine_words.specs.declared.task.State.TheVariants.{Hungry, Eating}
use Rattle.dine_table.specs.Table.{Table, is_in, same_state, same_task}
use Rattle.dine_table.specs.Sound.{IsSound}

-- what is seen of a scheduler: the table of its arbiter, and the tasks that run, in the order in which they were started
pub record Scheduler : Type 0 where
  pub table : Table
  pub running : List Task

-- the task is one of those that run
abbrev pub runs : List Task → Task → Bool
runs running u = list_any (same_task u) running

-- how many tasks are hungry
abbrev pub hungry_in : Table → ℕ
hungry_in t = length (filter (λ d. same_state Hungry d.state) t.order)

-- what a scheduler keeps true: its table is sound, and those who run are those who eat
pub record IsScheduled (t : Table) (running : List Task) : Type 0 where
  pub sound : IsSound t
  pub those_who_eat : (u : Task) → runs running u ≡ is_in Eating t.order u
