-- The table of last meals: who is present, in which state and in which order, and who is in conflict with whom.
-- The order of last meals restates the order of priority of the 1984 paper; joining, leaving and a conflict graph that
-- changes are this project's own.
use Rattle.std.specs.Prelude.{ℕ, ◌==◌, Bool, true, false, not, ◌&&◌, ◌||◌, if◌then◌else◌, List, [], ◌∷◌, Option, Some, None, option_map}
use Rattle.std.specs.List.{list_any, filter_map, find}
use Rattle.dine_words.specs.declared.task.Diner.{Diner}
use Rattle.dine_words.specs.declared.task.Task.{Task}
use Rattle.dine_words.specs.declared.task.State.{State}
use Rattle.dine_words.specs.declared.task.State.TheVariants.{Thinking, Hungry, Eating}
use Rattle.dine_words.specs.declared.limits.Limits.{Limits}

-- `order` has the tasks that are present, each once, with their states, the earliest last meal first.
-- `conflicts` has the pairs of tasks in conflict, each pair once, in the order in which they were declared.
-- `clock` counts the accepted joins and finishes so far
pub record Table : Type 0 where
  pub order : List Diner
  pub conflicts : List (Task × Task)
  pub clock : ℕ
  pub limits : Limits

-- the table at the opening: nobody is present
abbrev pub opening_table : Limits → Table
opening_table limits = record { order = []; conflicts = []; clock = 0; limits = limits }

-- the two names are one task's
abbrev pub same_task : Task → Task → Bool
same_task a b = (a.slot == b.slot) && (a.born == b.born)

-- the two states are one
abbrev pub same_state : State → State → Bool
same_state Thinking Thinking = true
same_state Hungry Hungry = true
same_state Eating Eating = true
same_state Thinking Hungry = false
same_state Thinking Eating = false
same_state Hungry Thinking = false
same_state Hungry Eating = false
same_state Eating Thinking = false
same_state Eating Hungry = false

-- the state of a task in an order, if it stands there
abbrev pub state_in : List Diner → Task → Option State
state_in [] u = None
state_in (d ∷ ds) u = if same_task d.task u then Some d.state else state_in ds u

-- the state of a task, if it is present
abbrev pub state_of : Table → Task → Option State
state_of t u = state_in t.order u

-- a state is found, and it is s
abbrev pub is_found : State → Option State → Bool
is_found s None = false
is_found s (Some found) = same_state s found

-- u is present, and in the state s
abbrev pub is_in : State → List Diner → Task → Bool
is_in s order u = is_found s (state_in order u)

-- ---- conflicts

-- one end of the conflict is u
abbrev pub has_end : Task → Task × Task → Bool
has_end u c = same_task u c.0 || same_task u c.1

-- the conflict is between a and b, named in either order
abbrev pub is_between : Task → Task → Task × Task → Bool
is_between a b c = (same_task a c.0 && same_task b c.1) || (same_task a c.1 && same_task b c.0)

-- a conflict between a and b stands
abbrev pub are_in_conflict : Table → Task → Task → Bool
are_in_conflict t a b = list_any (is_between a b) t.conflicts

-- the other end of a conflict that has u
abbrev pub other_end : Task → Task × Task → Option Task
other_end u c = if same_task u c.0 then Some c.1 else if same_task u c.1 then Some c.0 else None

-- the other ends of the conflicts that have u, in the order of the conflicts
abbrev pub neighbours_in : List (Task × Task) → Task → List Task
neighbours_in conflicts u = filter_map (other_end u) conflicts

-- the tasks that u is in conflict with, in the order in which the conflicts were declared
abbrev pub neighbours_of : Table → Task → List Task
neighbours_of t u = neighbours_in t.conflicts u

-- ---- last meals

-- a stands before b
abbrev pub stands_before : List Diner → Task → Task → Bool
stands_before [] a b = false
stands_before (d ∷ ds) a b = if same_task d.task b then false else (same_task d.task a || stands_before ds a b)

-- the last meal of a is sooner than that of b. A meal in progress is later than every finished one, and a newcomer counts
-- as having eaten last
abbrev pub sooner : List Diner → Task → Task → Bool
sooner order a b = not (is_in Eating order a) && (is_in Eating order b || stands_before order a b)

-- v keeps u from eating: it eats, or it is hungry and its last meal is sooner
abbrev pub keeps_waiting : List Diner → Task → Task → Bool
keeps_waiting order u v = is_in Eating order v || (is_in Hungry order v && stands_before order v u)

-- u is hungry, and no neighbour keeps it waiting
abbrev pub is_ready : Table → Task → Bool
is_ready t u = is_in Hungry t.order u && not (list_any (keeps_waiting t.order u) (neighbours_of t u))

-- the ready task whose last meal is the earliest
abbrev pub next_ready_of : Table → Option Task
next_ready_of t = option_map (λ d. d.task) (find (λ d. is_ready t d.task) t.order)

-- the neighbours of a task, if it is present
abbrev pub neighbours_if_present : Table → Task → Option (List Task)
neighbours_if_present t u = option_map (λ s. neighbours_of t u) (state_of t u)
