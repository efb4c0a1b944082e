-- For whom a hungry task waits now, and which tasks may begin now.
use Rattle.std.specs.Prelude.{if◌then◌else◌, List, [], map, filter, Option, option_map}
use Rattle.dine_words.specs.declared.task.Task.{Task}
use Rattle.dine_words.specs.declared.task.State.TheVariants.{Hungry}
use Rattle.dine_table.specs.Table.{Table, state_of, is_in, keeps_waiting, neighbours_of, is_ready}

-- the neighbours that keep a hungry task waiting, in the order in which the conflicts were declared: those that eat, and those
-- that are hungry with an earlier last meal. Nobody keeps a task waiting that isn't hungry
abbrev pub blockers_of : Table → Task → List Task
blockers_of t u = if is_in Hungry t.order u then filter (keeps_waiting t.order u) (neighbours_of t u) else []

-- those that keep a task waiting, if it is present
abbrev pub blockers_if_present : Table → Task → Option (List Task)
blockers_if_present t u = option_map (λ s. blockers_of t u) (state_of t u)

-- the tasks that may begin, the one with the earliest last meal first
abbrev pub ready_of : Table → List Task
ready_of t = map (λ d. d.task) (filter (λ d. is_ready t d.task) t.order)
