-- The bars that go on, as a drawing keeps them: each at the slot of its task, and of what the table tells of the task.
use Rattle.std.specs.Prelude.{◌≡◌, ◌≢◌, ℕ, ◌==◌, ◌<◌, ◌≤◌, true, false, if◌then◌else◌, List, [], ◌∷◌, length, slice_index_or, Option, Some, None, is_some}
use Rattle.std.specs.List.{AllByRecursion}
use Rattle.dine_words.specs.declared.task.Diner.{Diner}
use Rattle.dine_words.specs.declared.task.Task.{Task}
use Rattle.dine_words.specs.declared.task.State.TheVariants.{Hungry}
use Rattle.dine_words.specs.declared.call.Call.{Call}
use Rattle.dine_words.specs.declared.call.Call.TheVariants as call
use Rattle.dine_table.specs.Table.{Table, same_task, state_of}
use Rattle.dine_table.specs.Sound.{IsSound}
use Rattle.dine_bars.specs.declared.bar.BarKind.{BarKind}
use Rattle.dine_bars.specs.declared.bar.BarKind.TheVariants.{KeptWaiting, MayBegin}
use Rattle.dine_bars.specs.declared.bar.OpenBar.{OpenBar}
use Rattle.dine_bars.specs.Bars.{kind_at}
use Rattle.dine_bars.specs.Marks.{begun_of}

-- ---- slots

-- each task's slot is below the limit
abbrev pub SlotsBelow : ℕ → List Diner → Type 0
SlotsBelow tasks order = AllByRecursion (λ d. d.task.slot < tasks) order

-- the tasks that are present differ in their slots, and each slot has a place among so many
pub record AreSeated (t : Table) (slots : ℕ) : Type 0 where
  pub one : (u w : Task) → is_some (state_of t u) ≡ true → is_some (state_of t w) ≡ true → u.slot ≡ w.slot → u ≡ w
  pub within : (u : Task) → is_some (state_of t u) ≡ true → u.slot < slots

-- the task at a slot of those in the order. It is asked for where there is one
abbrev pub seated_at : List Diner → ℕ → Task
seated_at [] slot = record { slot = slot; born = 0 }
seated_at (d ∷ ds) slot = if d.task.slot == slot then d.task else seated_at ds slot

-- ---- bars that go on

-- each stands at the slot of its task, which is present, and began at the place or before
abbrev pub AreStanding : Table → ℕ → List (Option OpenBar) → Type 0
AreStanding t place begun =
    (s : ℕ) (bar : OpenBar) → slice_index_or begun s None ≡ Some bar
    → (bar.task.slot ≡ s) × (is_some (state_of t bar.task) ≡ true) × (bar.from ≤ place)

-- the kind of a bar, if it is one of u
abbrev pub kind_of_bar : Task → Option OpenBar → Option BarKind
kind_of_bar u None = None
kind_of_bar u (Some bar) = if same_task bar.task u then Some bar.kind else None

-- of each task goes on what the table tells of it
pub record AreTold (t : Table) (place : ℕ) (begun : List (Option OpenBar)) : Type 0 where
  pub below : SlotsBelow t.limits.tasks t.order
  pub stand : AreStanding t place begun
  pub all : length begun ≡ t.limits.tasks
  pub kinds : (w : Task) → kind_of_bar w (begun_of begun w) ≡ kind_at t w

-- ---- looks after a call

-- the table is sound, each bar stands at the slot of its task, and there is a place for each slot
pub record AreKept (t : Table) (place : ℕ) (begun : List (Option OpenBar)) : Type 0 where
  pub sound : IsSound t
  pub seated : AreSeated t t.limits.tasks
  pub stand : AreStanding t place begun
  pub all : length begun ≡ t.limits.tasks

-- a bar of w of another kind, or none, is what the table tells, and where it is of this kind w is hungry
pub record IsCalm (t : Table) (kind : BarKind) (begun : List (Option OpenBar)) (w : Task) : Type 0 where
  pub others : kind_of_bar w (begun_of begun w) ≢ Some kind → kind_of_bar w (begun_of begun w) ≡ kind_at t w
  pub hungry : kind_of_bar w (begun_of begun w) ≡ Some kind → state_of t w ≡ Some Hungry

-- the bars stand, u is present, and so it is of all but u
pub record AreCalmBut (t : Table) (u : Task) (kind : BarKind) (place : ℕ) (begun : List (Option OpenBar)) : Type 0 where
  pub kept : AreKept t place begun
  pub here : is_some (state_of t u) ≡ true
  pub calm : (w : Task) → same_task u w ≡ false → IsCalm t kind begun w

-- the bars stand, u is present, and those of all but u are what the table tells
pub record AreToldBut (t : Table) (u : Task) (place : ℕ) (begun : List (Option OpenBar)) : Type 0 where
  pub kept : AreKept t place begun
  pub here : is_some (state_of t u) ≡ true
  pub told : (w : Task) → same_task u w ≡ false → kind_of_bar w (begun_of begun w) ≡ kind_at t w

-- what an accepted call may change of others, t being the table after it: who may begin may have to wait for whoever grows
-- hungry, who was kept waiting may begin when somebody is done, and a meal that begins changes nobody
abbrev pub AreCalmAfter : Call → Table → ℕ → List (Option OpenBar) → Type 0
AreCalmAfter (call.Hungry u) t place begun = AreCalmBut t u MayBegin place begun
AreCalmAfter (call.Begin u) t place begun = AreToldBut t u place begun
AreCalmAfter (call.Finish u) t place begun = AreCalmBut t u KeptWaiting place begun
AreCalmAfter (call.Withdraw u) t place begun = AreCalmBut t u KeptWaiting place begun
AreCalmAfter call.Join t place begun = Unit {0}
AreCalmAfter (call.Leave u) t place begun = Unit {0}
AreCalmAfter (call.Conflict u v) t place begun = Unit {0}
AreCalmAfter (call.Separate u v) t place begun = Unit {0}
