use Rattle.std.specs.Prelude.{◌≡◌, take, unwrap_or}
use Rattle.std.specs.HashMap.{get}
use Rattle.dine_words.specs.declared.task.Task.{Task}
use Rattle.dine_table.specs.Table.{same_task}
use Rattle.dine_race.specs.Report.{meals_of}
use Rattle.dine_race.proofs.meals.Meals.count.Given as goal

-- the meals so far are counted
abbrev pub invariant-loop-place : goal.invariant-loop-place
invariant-loop-place l = (t : Task) → unwrap_or (get same_task l.meals.counts t) 0 ≡ meals_of t (take l.place l.journal.entries)
