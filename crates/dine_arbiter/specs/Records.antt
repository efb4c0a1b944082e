-- What the book's records stand for, and what a call does to those of a slot.
use Rattle.std.specs.Prelude.{◌≡◌, ℕ, ◌==◌, ◌<◌, false, length, not, List, filter, Option}
use Rattle.dine_words.specs.declared.task.Task.{Task}
pub use Rattle.dine_forks.specs.declared.record.Fork.{Fork}
pub use Rattle.dine_forks.specs.declared.record.ForkId.{ForkId}
pub use Rattle.dine_forks.specs.declared.record.ForkRecord.{ForkRecord}
use Rattle.dine_forks.specs.Book.{CanBeLinked, ForkBook, changed_where, is_full, is_end, is_between, other_end, with_record}
use Rattle.dine_arbiter.specs.declared.seats.Seat.{Seat}
use Rattle.dine_arbiter.specs.Edge.{settled, messages_left, withdrawn, withdrawal_messages}
use Rattle.dine_arbiter.specs.Forks.{new_fork}
use Rattle.dine_arbiter.specs.Seats.{task_at, seat_state, is_sooner_at}

-- the conflict that a record stands for
abbrev pub conflict_of : List (Option Seat) → ForkRecord → Task × Task
conflict_of seats r = (task_at seats r.first, task_at seats r.second)

-- the task at the other end of a record of a slot
abbrev pub neighbour_at : List (Option Seat) → ℕ → ForkRecord → Task
neighbour_at seats slot r = task_at seats (other_end slot r)

-- the fork of a new record between two slots, once its edge is quiet
abbrev pub fork_of_new : List (Option Seat) → ℕ → ℕ → Fork
fork_of_new seats a b = settled (new_fork (is_sooner_at seats a b)) (seat_state seats a) (seat_state seats b)

-- the messages until the edge of a new record is quiet
abbrev pub messages_of_new : List (Option Seat) → ℕ → ℕ → ℕ
messages_of_new seats a b = messages_left (new_fork (is_sooner_at seats a b)) (seat_state seats a) (seat_state seats b)

-- the fork of a record once the task at the slot, one of its ends, has withdrawn
abbrev pub withdrawn_fork : ℕ → ForkRecord → Fork
withdrawn_fork slot r = withdrawn (slot == r.first) r.fork

-- the messages of that
abbrev pub withdrawal_messages_of : ℕ → ForkRecord → ℕ
withdrawal_messages_of slot r = withdrawal_messages (slot == r.first) r.fork

-- the record, once the task at the slot has withdrawn if the slot is an end
abbrev pub withdrawn_at : ℕ → ForkRecord → ForkRecord
withdrawn_at slot r = changed_where (is_end slot) (withdrawn_fork slot) r

-- ---- the book

-- the book, with a new record between two slots behind all others
abbrev pub longer_book : List (Option Seat) → ForkId → ℕ → ℕ → ForkBook → ForkBook
longer_book seats id a b book = record book { records = with_record id a b (fork_of_new seats a b) book.records }

-- what a new record between two slots asks of seats and book: the seats have both slots, which can be linked in the
-- book, and the book has room
pub record MayLink (seats : List (Option Seat)) (book : ForkBook) (a : ℕ) (b : ℕ) : Type 0 where
  pub first_seat : a < length seats
  pub second_seat : b < length seats
  pub slots : CanBeLinked a b book
  pub room : is_full book ≡ false

-- the book without the records of a slot
abbrev pub book_without_slot : ℕ → ForkBook → ForkBook
book_without_slot slot book = record book { records = filter (λ r. not (is_end slot r)) book.records }

-- the book without the record of two slots
abbrev pub book_without_pair : ℕ → ℕ → ForkBook → ForkBook
book_without_pair a b book = record book { records = filter (λ r. not (is_between a b r)) book.records }
