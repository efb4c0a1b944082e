-- What an arbiter is seen as, and what it keeps true.
use Rattle.std.specs.Prelude.{◌≡◌, ℕ, ◌*◌, ◌≤◌, if◌then◌else◌, List, map, length, None, Option, Some}
use Rattle.dine_words.specs.declared.limits.Limits.{Limits}
use Rattle.dine_words.specs.declared.task.Task.{Task}
use Rattle.dine_words.specs.declared.call.Call.{Call}
use Rattle.dine_words.specs.declared.call.Call.TheVariants as call
use Rattle.dine_words.specs.declared.call.Refusal.{Refusal}
use Rattle.dine_words.specs.declared.call.Refusal.TheVariants.{Same, Unknown}
use Rattle.dine_words.specs.declared.call.Reply.{Reply}
use Rattle.dine_table.specs.Table.{Table, neighbours_of, same_task}
use Rattle.dine_table.specs.Calls.{is_absent, refusal_of, reply_of, table_after_call}
use Rattle.dine_table.specs.Messages.{cost_of}
use Rattle.dine_table.specs.Sound.{IsSound}
use Rattle.dine_forks.specs.declared.record.Fork.{Fork}
use Rattle.dine_forks.specs.declared.record.ForkRecord.{ForkRecord}
use Rattle.dine_forks.specs.Book.{ForkBook}
use Rattle.dine_arbiter.specs.declared.seats.Seat.{Seat}
use Rattle.dine_arbiter.specs.Edge.{ForksAgree}
use Rattle.dine_arbiter.specs.Forks.{ForksFollow}
use Rattle.dine_arbiter.specs.Seats.{by_stamp, ArePlaced, StampsDiffer}
use Rattle.dine_arbiter.specs.Records.{conflict_of}

-- a table with the fork of each conflict, in the order of the conflicts, and the messages of the last call
pub record Arbiter : Type 0 where
  pub table : Table
  pub forks : List Fork
  pub messages : ℕ

-- the forks of the records, in the same order
abbrev pub forks_of : List ForkRecord → List Fork
forks_of records = map (λ r. r.fork) records

-- the slots of the two tasks in conflict
abbrev pub slots_of : Task × Task → ℕ × ℕ
slots_of c = (c.0.slot, c.1.slot)

-- the table that seats and records stand for
abbrev pub table_of : List (Option Seat) → List ForkRecord → ℕ → Limits → Table
table_of seats records clock limits =
    record { order = by_stamp clock seats; conflicts = map (conflict_of seats) records; clock = clock; limits = limits }

-- what an arbiter keeps true of its seats, how many of them are taken, its book, clock and limits
pub record IsKeptArbiter
    (seats : List (Option Seat)) (present : ℕ) (book : ForkBook) (clock : ℕ) (limits : Limits) : Type 0 where
  pub placed : ArePlaced clock 0 seats
  pub stamps_differ : StampsDiffer seats
  pub counted : present ≡ length (by_stamp clock seats)
  pub agree : ForksAgree (table_of seats book.records clock limits) (forks_of book.records)
  pub sound : IsSound (table_of seats book.records clock limits)
  pub seat_for_each_slot : length seats ≡ limits.tasks
  pub slots_of_book : book.slots ≡ limits.tasks
  pub room_of_book : book.room ≡ limits.conflicts

-- what speaks against a call on two tasks, whatever the call
abbrev pub refusal_of_two : Table → Task → Task → Option Refusal
refusal_of_two t u v =
    if is_absent t u then Some Unknown
    else if is_absent t v then Some Unknown
    else if same_task u v then Some Same
    else None

-- what speaks against a call before the conflict is looked for that it is to end
abbrev pub early_refusal_of : Table → Call → Option Refusal
early_refusal_of t (call.Separate u v) = refusal_of_two t u v
early_refusal_of t c = refusal_of t c

-- the most messages that a call can cost, by the conflicts of its task
abbrev pub most_messages : Table → Call → ℕ
most_messages t (call.Hungry u) = 3 * length (neighbours_of t u)
most_messages t (call.Finish u) = length (neighbours_of t u)
most_messages t (call.Conflict u v) = 3
most_messages t (call.Withdraw u) = 2 * length (neighbours_of t u)
most_messages t c = 0

-- a call is carried out, or refused: the reply is the table's, the table is the next one, the forks have changed as the call
-- wants and agree with the table, and the messages are those that it costs, which are few
pub record CarriesOut (old : Arbiter) (c : Call) (answer : Reply) (new : Arbiter) : Type 0 where
  pub reply : answer ≡ reply_of old.table c
  pub table : new.table ≡ table_after_call old.table c
  pub agree : ForksAgree new.table new.forks
  pub forks : ForksFollow old.table c old.forks new.forks new.messages
  pub messages : new.messages ≡ cost_of old.table c
  pub few : new.messages ≤ most_messages old.table c
