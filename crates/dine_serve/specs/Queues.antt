-- The begins that wait, by the slots of their tasks, and all of them in the order of last meals.
use Rattle.std.specs.Prelude.{◌≡◌, ◌⊎◌, ℕ, ◌==◌, ◌||◌, if◌then◌else◌, Bool, true, false, List, [], ◌∷◌, ◌++◌, length, map, slice_get, unwrap_or, Option, Some, None, is_some}
use Rattle.std.specs.List.{AllByRecursion, filter}
use Rattle.std.specs.declared.alloc.Global.{Global}
use Rattle.std.specs.declared.collections.VecDeque.{VecDeque}
use Rattle.dine_serve.specs.Words.{Call, Diner, Task, Table, are_in_conflict, same_task, stands_before, state_in, has_to_wait, IsSound, Await}
use Rattle.dine_words.specs.declared.call.Call.TheVariants as call
use Rattle.dine_serve.specs.Waits.{AllWait, InOrder}

-- the queues by slot, and how many begins wait
pub record Waiters : Type 0 where
  pub rows : List (List Await)
  pub len : ℕ

-- the queue at a slot
abbrev pub queue_at : List (List Await) → ℕ → List Await
queue_at rows slot = unwrap_or (slice_get rows slot) []

-- the queues as lists
abbrev pub rows_of : List (VecDeque Await Global) → List (List Await)
rows_of queues = map (λ q. q.items) queues

-- the begin of a queue that came first
abbrev pub first_of : List Await → Option Await
first_of [] = None
first_of (a ∷ others) = Some a

-- the queue at this slot is this one now, and the others are as they were
pub record Changes (old new : List (List Await)) (slot : ℕ) (queue : List Await) : Type 0 where
  pub changed : queue_at new slot ≡ queue
  pub others : (s : ℕ) → (slot == s) ≡ false → queue_at new s ≡ queue_at old s

-- each queue is as it was
abbrev pub SameQueues : List (List Await) → List (List Await) → Type 0
SameQueues old new = (slot : ℕ) → queue_at new slot ≡ queue_at old slot

-- all begins that wait, in the order of last meals: for each task its queue
abbrev pub in_order : List Diner → List (List Await) → List Await
in_order [] rows = []
in_order (d ∷ ds) rows = queue_at rows d.task.slot ++ in_order ds rows

-- the begin waits at the slot
abbrev pub waits_at : ℕ → Await → Bool
waits_at slot a = slot == a.task.slot

-- each queue has those of all begins that wait at its slot
abbrev pub AreQueued : List (List Await) → List Await → Type 0
AreQueued rows awaits = (slot : ℕ) → queue_at rows slot ≡ filter (waits_at slot) awaits

-- the task of each is present
abbrev pub AreSeated : List Diner → List Await → Type 0
AreSeated order awaits = AllByRecursion (λ a. is_some (state_in order a.task) ≡ true) awaits

-- the task of each is present, and each stands in the queue at its slot
pub record AreHeld (order : List Diner) (rows : List (List Await)) : Type 0 where
  pub seated : AreSeated order (in_order order rows)
  pub queued : AreQueued rows (in_order order rows)

-- ---- what is kept of those who wait

-- between two lines each has to wait
pub record IsKept (t : Table) (w : Waiters) : Type 0 where
  pub sound : IsSound t
  pub all_wait : AllWait t (in_order t.order w.rows)
  pub held : AreHeld t.order w.rows
  pub ordered : InOrder t.order (in_order t.order w.rows)
  pub counted : w.len ≡ length (in_order t.order w.rows)

-- an accepted call may have ended the wait of a task: of a neighbour of one whose meal or hunger ended, of the task whose
-- hunger ended, or of one of two that are separated
abbrev pub may_have_ended : Table → Call → Task → Bool
may_have_ended t (call.Finish v) u = are_in_conflict t v u
may_have_ended t (call.Withdraw v) u = same_task v u || are_in_conflict t v u
may_have_ended t (call.Separate v w) u = same_task v u || same_task w u
may_have_ended t call.Join u = false
may_have_ended t (call.Leave v) u = false
may_have_ended t (call.Conflict v w) u = false
may_have_ended t (call.Hungry v) u = false
may_have_ended t (call.Begin v) u = false

-- each has to wait unless the call may have ended its wait
abbrev pub AllWaitBut : Table → Call → List Await → Type 0
AllWaitBut t c awaits = AllByRecursion (λ a. may_have_ended t c a.task ≡ false → has_to_wait t a.task ≡ true) awaits

-- while those are made that wait no longer after a call, the others have to wait
pub record IsRetried (t : Table) (c : Call) (w : Waiters) : Type 0 where
  pub sound : IsSound t
  pub held : AreHeld t.order w.rows
  pub ordered : InOrder t.order (in_order t.order w.rows)
  pub counted : w.len ≡ length (in_order t.order w.rows)
  pub waits : AllWaitBut t c (in_order t.order w.rows)

-- ---- which is due

-- the first that has to wait no longer
abbrev pub first_due : Table → List Await → Option Await
first_due t [] = None
first_due t (a ∷ others) = if has_to_wait t a.task then first_due t others else Some a

-- the first at a slot is due first, if there is one
abbrev pub IsNext : Table → List (List Await) → ℕ → Type 0
IsNext t rows slot = (a : Await) → first_of (queue_at rows slot) ≡ Some a → first_due t (in_order t.order rows) ≡ Some a

-- what was found is the task's, or stands before it
abbrev pub Leads : List Diner → Option Await → Task → Type 0
Leads order None u = ⊥
Leads order (Some b) u = (same_task b.task u ≡ true) ⊎ (stands_before order b.task u ≡ true)

-- what was found is due, and came first at its slot
pub record IsDueAt (t : Table) (rows : List (List Await)) (b : Await) : Type 0 where
  pub slot : ℕ
  pub first : first_of (queue_at rows slot) ≡ Some b
  pub due : has_to_wait t b.task ≡ false

-- what was found leads the first at a slot, if that is due
abbrev pub LeadsAt : Table → List (List Await) → Option Await → ℕ → Type 0
LeadsAt t rows found slot =
    (a : Await) → first_of (queue_at rows slot) ≡ Some a → has_to_wait t a.task ≡ false → Leads t.order found a.task

-- what was found later leads all that what was found before leads
abbrev pub LeadsOn : List Diner → Option Await → Option Await → Type 0
LeadsOn order found later = (u : Task) → Leads order found u → Leads order later u
