-- What holds of each table that calls reach, and of a task that may begin.
use Rattle.std.specs.Prelude.{◌≡◌, ◌≢◌, ◌==◌, ◌<◌, ◌≤◌, Bool, true, false, ◌&&◌, List, [], ◌∷◌, length, Some, None, IsSome}
use Rattle.std.specs.List.{AllByRecursion, IsDistinct}
use Rattle.dine_words.specs.declared.task.Task.{Task}
use Rattle.dine_words.specs.declared.task.Diner.{Diner}
use Rattle.dine_words.specs.declared.task.State.TheVariants.{Hungry, Eating}
use Rattle.dine_table.specs.Table.{Table, same_task, state_in, state_of, is_in, is_between, are_in_conflict, stands_before}

-- ---- tasks

-- no task stands twice in the order
abbrev pub EachOnce : List Diner → Type 0
EachOnce [] = Unit {0}
EachOnce (d ∷ ds) = (state_in ds d.task ≡ None) × EachOnce ds

-- the two diners sit in the same slot
abbrev pub same_slot : Diner → Diner → Bool
same_slot d e = d.task.slot == e.task.slot

-- ---- conflicts

-- no task is in conflict with itself
abbrev pub EndsDiffer : List (Task × Task) → Type 0
EndsDiffer conflicts = AllByRecursion (λ c. same_task c.0 c.1 ≡ false) conflicts

-- both ends of each conflict are present
abbrev pub EndsPresent : List Diner → List (Task × Task) → Type 0
EndsPresent order conflicts = AllByRecursion (λ c. IsSome (state_in order c.0) × IsSome (state_in order c.1)) conflicts

-- the two conflicts are between the same two tasks
abbrev pub same_pair : Task × Task → Task × Task → Bool
same_pair c d = is_between c.0 c.1 d

-- the two ends of a conflict never eat at the same time
abbrev pub NoNeighboursEat : List Diner → List (Task × Task) → Type 0
NoNeighboursEat order conflicts =
    AllByRecursion (λ c. (is_in Eating order c.0 && is_in Eating order c.1) ≡ false) conflicts

-- ---- tables

-- what holds of each table that calls reach from nobody present
pub record IsSound (t : Table) : Type 0 where
  pub each_once : EachOnce t.order
  pub each_slot_once : IsDistinct same_slot t.order
  pub ends_differ : EndsDiffer t.conflicts
  pub ends_present : EndsPresent t.order t.conflicts
  pub each_pair_once : IsDistinct same_pair t.conflicts
  pub no_neighbours_eat : NoNeighboursEat t.order t.conflicts
  pub born_before : AllByRecursion (λ d. d.task.born < t.clock) t.order
  pub few_tasks : length t.order ≤ t.limits.tasks
  pub few_conflicts : length t.conflicts ≤ t.limits.conflicts

-- u is hungry, none of its neighbours eats, and no hungry neighbour's last meal is earlier
pub record MayBegin (t : Table) (u : Task) : Type 0 where
  pub hungry : state_of t u ≡ Some Hungry
  pub none_eats : (v : Task) → are_in_conflict t u v ≡ true → state_of t v ≢ Some Eating
  pub none_earlier :
      (v : Task) → are_in_conflict t u v ≡ true → state_of t v ≡ Some Hungry → stands_before t.order v u ≡ false
