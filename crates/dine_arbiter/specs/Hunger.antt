-- Hunger of anyone, beside a task, and beside its slot.
use Rattle.std.specs.Prelude.{◌≡◌, ℕ, Bool, List, map, None, Option, slice_index_or}
use Rattle.std.specs.List.{list_any}
use Rattle.dine_words.specs.declared.task.Task.{Task}
use Rattle.dine_words.specs.declared.task.State.{State}
use Rattle.dine_words.specs.declared.task.State.TheVariants.{Hungry}
use Rattle.dine_table.specs.Table.{Table, same_state, is_in, neighbours_of}
use Rattle.dine_forks.specs.declared.record.ForkRecord.{ForkRecord}
use Rattle.dine_forks.specs.Book.{other_end}
use Rattle.dine_arbiter.specs.declared.seats.Seat.{Seat}
use Rattle.dine_arbiter.specs.Seats.{HasSlot, is_free, state_of_seat, seat_state}

-- the state is that of a hungry task
abbrev pub is_hungry : State → Bool
is_hungry s = same_state Hungry s

-- for each slot whether its task is hungry
abbrev pub hungry_slots : List (Option Seat) → List Bool
hungry_slots seats = map is_hungry (map state_of_seat seats)

-- what is kept beside the seats: the state of the task at each slot, and which slots are those of hungry tasks or free. The
-- task of each seat has the seat's place as its slot
pub record IsTold (seats : List (Option Seat)) (states : List State) (hungry free : List Bool) : Type 0 where
  pub states_told : states ≡ map state_of_seat seats
  pub hungry_told : hungry ≡ map is_hungry states
  pub free_told : free ≡ map is_free seats
  pub slots_told : (slot : ℕ) → HasSlot slot (slice_index_or seats slot None)

-- u is in conflict with a task that is hungry
abbrev pub has_hungry_neighbour : Table → Task → Bool
has_hungry_neighbour t u = list_any (is_in Hungry t.order) (neighbours_of t u)

-- the task at the other end of a record of a slot is hungry
abbrev pub is_hungry_beside : List (Option Seat) → ℕ → ForkRecord → Bool
is_hungry_beside seats slot r = is_hungry (seat_state seats (other_end slot r))
