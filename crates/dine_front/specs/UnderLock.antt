-- What lies under the lock of a front, and what is true of it each time the lock is got.
use Rattle.std.specs.Prelude.{◌≡◌, ℕ, ◌+◌, Bool, true, false, List, length, Option, Some, slice_set}
use Rattle.dine_words.specs.declared.entry.Entry.{Entry}
use Rattle.dine_words.specs.declared.limits.Limits.{Limits}
use Rattle.dine_words.specs.declared.task.Task.{Task}
use Rattle.dine_table.specs.Table.{Table}
use Rattle.dine_table.specs.History.{table_after}
use Rattle.dine_journal.specs.Kept.{Hall}

-- what is seen under the lock: the limits of the table, the history, whether the front is stopped, and the task that each
-- pass waits for, if it waits and was not told yet, in the order of the passes' numbers
pub record Locked : Type 0 where
  pub limits : Limits
  pub history : List Entry
  pub is_stopped : Bool
  pub waiting : List (Option Task)

-- the same, with these tasks waited for
abbrev pub with_waiting : List (Option Task) → Locked → Locked
with_waiting waiting guarded =
    record { limits = guarded.limits; history = guarded.history; is_stopped = guarded.is_stopped; waiting = waiting }

-- the same, with the pass of this number waiting for the task where the test holds
abbrev pub noted_if : Bool → ℕ → Task → Locked → Locked
noted_if true number u guarded = with_waiting (slice_set guarded.waiting number (Some u)) guarded
noted_if false number u guarded = guarded

-- the table of last meals that the history under the lock leaves
abbrev pub table_kept : Locked → Table
table_kept guarded = table_after guarded.limits guarded.history

-- the ledger counts the history: its total is the length of the history, every part that no pass has is here, and that
-- part counts no call. The table has the limits of the front
pub record CountsHistory
    (limits : Limits) (passes parts : ℕ) (hall : Hall) (total rest_parts rest_amount : ℕ) : Type 0 where
  pub limits_kept : hall.limits ≡ limits
  pub counted : total ≡ length hall.history
  pub parts_here : rest_parts + passes ≡ parts
  pub no_calls : rest_amount ≡ 0
