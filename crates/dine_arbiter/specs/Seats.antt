-- The seats of an arbiter, and the order of last meals that their stamps tell.
use Rattle.std.specs.Prelude.{◌≡◌, ℕ, zero, suc, ◌==◌, nat_lt, ◌+◌, ◌<◌, Bool, true, false, not, ◌&&◌, ◌||◌, if◌then◌else◌, List, [], ◌∷◌, ◌++◌, Option, Some, None, slice_index_or, slice_set}
use Rattle.std.specs.List.{filter_map}
pub use Rattle.dine_words.specs.declared.task.Task.{Task}
pub use Rattle.dine_words.specs.declared.task.State.{State}
pub use Rattle.dine_words.specs.declared.task.State.TheVariants.{Thinking, Hungry, Eating}
pub use Rattle.dine_words.specs.declared.task.Diner.{Diner}
use Rattle.dine_table.specs.Table.{same_task, same_state}
use Rattle.dine_table.specs.Calls.{diner_put_in}
pub use Rattle.dine_arbiter.specs.declared.seats.Seat.{Seat}

-- ---- the order of last meals

-- the diner of a seat with the stamp n
abbrev pub diner_stamped : ℕ → Option Seat → Option Diner
diner_stamped n None = None
diner_stamped n (Some seat) = if seat.stamp == n then Some seat.diner else None

-- the diners with the stamp n
abbrev pub stamped : ℕ → List (Option Seat) → List Diner
stamped n seats = filter_map (diner_stamped n) seats

-- the diners with stamps below n, the least stamp first
abbrev pub by_stamp : ℕ → List (Option Seat) → List Diner
by_stamp zero seats = []
by_stamp (suc n) seats = by_stamp n seats ++ stamped n seats

-- ---- what holds of the seats

-- the task of a seat has the seat's place as its slot, and a stamp below the clock
abbrev pub IsPlaced : ℕ → ℕ → Option Seat → Type 0
IsPlaced clock slot None = Unit {0}
IsPlaced clock slot (Some seat) = (seat.diner.task.slot ≡ slot) × (seat.stamp < clock)

-- so for each seat, the first being at this slot
abbrev pub ArePlaced : ℕ → ℕ → List (Option Seat) → Type 0
ArePlaced clock slot [] = Unit {0}
ArePlaced clock slot (x ∷ xs) = IsPlaced clock slot x × ArePlaced clock (slot + 1) xs

-- no two tasks have one stamp
abbrev pub StampsDiffer : List (Option Seat) → Type 0
StampsDiffer seats =
    (i j : ℕ) (x y : Seat) → slice_index_or seats i None ≡ Some x → slice_index_or seats j None ≡ Some y
    → x.stamp ≡ y.stamp → i ≡ j

-- ---- one seat

-- the state of the task, if it has the seat
abbrev pub state_in_seat : Task → Option Seat → Option State
state_in_seat u None = None
state_in_seat u (Some seat) = if same_task seat.diner.task u then Some seat.diner.state else None

-- the seat with its task in the state, if the task is u
abbrev pub put_in_seat : State → Task → Option Seat → Option Seat
put_in_seat s u None = None
put_in_seat s u (Some seat) = Some record { diner = diner_put_in s u seat.diner; stamp = seat.stamp }

-- the task in the seat at the slot. It is asked for where there is one
abbrev pub task_in_seat : ℕ → Option Seat → Task
task_in_seat slot None = record { slot = slot; born = 0 }
task_in_seat slot (Some seat) = seat.diner.task

-- the state of the task in the seat. It is asked for where there is one
abbrev pub state_of_seat : Option Seat → State
state_of_seat None = Thinking
state_of_seat (Some seat) = seat.diner.state

-- the stamp of the task in the seat. It is asked for where there is one
abbrev pub stamp_in_seat : Option Seat → ℕ
stamp_in_seat None = 0
stamp_in_seat (Some seat) = seat.stamp

-- no task has the seat
abbrev pub is_free : Option Seat → Bool
is_free None = true
is_free (Some seat) = false

-- the last meal of the first seat's task is sooner than that of the second's
abbrev pub is_sooner_seat : Option Seat → Option Seat → Bool
is_sooner_seat (Some a) (Some b) =
    not (same_state Eating a.diner.state) && (same_state Eating b.diner.state || nat_lt a.stamp b.stamp)
is_sooner_seat a b = false

-- the seat, if the task has it
abbrev pub seat_of : Task → Option Seat → Option Seat
seat_of u None = None
seat_of u (Some seat) = if same_task seat.diner.task u then Some seat else None

-- the first seat's stamp is less than the second's, or there is no second
abbrev pub is_stamped_before : Option Seat → Option Seat → Bool
is_stamped_before None b = false
is_stamped_before (Some a) None = true
is_stamped_before (Some a) (Some b) = nat_lt a.stamp b.stamp

-- ---- the seats by slot

-- the state of a task, if it is present
abbrev pub state_at : List (Option Seat) → Task → Option State
state_at seats u = state_in_seat u (slice_index_or seats u.slot None)

-- the task at a slot
abbrev pub task_at : List (Option Seat) → ℕ → Task
task_at seats slot = task_in_seat slot (slice_index_or seats slot None)

-- the stamp of the task at a slot
abbrev pub stamp_at : List (Option Seat) → ℕ → ℕ
stamp_at seats slot = stamp_in_seat (slice_index_or seats slot None)

-- the state of the task at a slot
abbrev pub seat_state : List (Option Seat) → ℕ → State
seat_state seats slot = state_of_seat (slice_index_or seats slot None)

-- the last meal of the task at the one slot is sooner than that of the task at the other
abbrev pub is_sooner_at : List (Option Seat) → ℕ → ℕ → Bool
is_sooner_at seats a b = is_sooner_seat (slice_index_or seats a None) (slice_index_or seats b None)

-- the seat of a task, if it is present
abbrev pub seat_at : List (Option Seat) → Task → Option Seat
seat_at seats u = seat_of u (slice_index_or seats u.slot None)

-- the one task stands before the other in the order of last meals
abbrev pub stands_before_at : List (Option Seat) → Task → Task → Bool
stands_before_at seats a b = is_stamped_before (seat_at seats a) (seat_at seats b)

-- the place of the first free seat, or behind all
abbrev pub first_free : List (Option Seat) → ℕ
first_free (Some seat ∷ xs) = suc (first_free xs)
first_free seats = 0

-- the task of a seat, if it has one, has the slot
abbrev pub HasSlot : ℕ → Option Seat → Type 0
HasSlot slot None = Unit {0}
HasSlot slot (Some seat) = seat.diner.task.slot ≡ slot

-- ---- a change of one seat

-- the seats, the task of one being in another state
abbrev pub seats_put : State → Task → List (Option Seat) → List (Option Seat)
seats_put s u seats = slice_set seats u.slot (put_in_seat s u (slice_index_or seats u.slot None))

-- the seats, a task being seated at its slot, thinking, with the stamp
abbrev pub seats_last : Task → ℕ → List (Option Seat) → List (Option Seat)
seats_last u stamp seats =
    slice_set seats u.slot (Some record { diner = record { task = u; state = Thinking }; stamp = stamp })
