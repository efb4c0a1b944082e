-- How far the receipts of the passes were compared with a history, by a walk over it.
use Rattle.std.specs.Prelude.{◌≡◌, ℕ, ◌<◌, ◌≤◌, List, length, Some, take, slice_index_or, IsTrue, IsFalse}
use Rattle.dine_words.specs.declared.call.Call.{Call}
use Rattle.dine_words.specs.declared.entry.Entry.{Entry}
use Rattle.dine_journal.specs.declared.hall.Answer.{Answer}
use Rattle.dine_front.specs.declared.cursors.Cursor.{Cursor}
use Rattle.dine_front.specs.Passes.{Pass}
use Rattle.dine_front.specs.Mine.{mine, receipts_of}
use Rattle.dine_front.specs.Verdicts.{PartAt}

-- the receipts of pass k were compared with the first i entries of the history: those that matched are all that these
-- entries say, or the receipts and the whole history part behind them
pub record IsCompared (i k : ℕ) (history : List Entry) (receipts : List (Call × Answer)) (c : Cursor) : Type 0 where
  pub same : IsFalse c.is_parted → take c.matched receipts ≡ mine k (take i history)
  pub within : IsFalse c.is_parted → c.matched ≤ length receipts
  pub part : IsTrue c.is_parted → PartAt c.matched receipts (mine k history)

-- the cursor is at pass k, whose receipts were compared with the first i entries of the history
pub record Follows (passes : List Pass) (history : List Entry) (i k : ℕ) (c : Cursor) : Type 0 where
  pub here : c.at < length passes
  pub of_pass : (p : Pass) → receipts_of k passes ≡ Some (slice_index_or passes c.at p).receipts
  pub compared : (p : Pass) → IsCompared i k history (slice_index_or passes c.at p).receipts c

-- each of the passes 0 to n - 1 has such a cursor, in its place
pub record AllFollow (n : ℕ) (passes : List Pass) (history : List Entry) (i : ℕ) (cursors : List Cursor) : Type 0 where
  pub places : length cursors ≡ 16
  pub each : (k : ℕ) → k < n → (c : Cursor) → Follows passes history i k (slice_index_or cursors k c)
