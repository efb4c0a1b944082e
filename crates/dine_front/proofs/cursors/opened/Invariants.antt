use Rattle.std.specs.Prelude.{◌≡◌, ℕ, ◌<◌, List, length, slice_index_or}
use Rattle.dine_words.specs.declared.entry.Entry.{Entry}
use Rattle.dine_front.specs.declared.cursors.Cursor.{Cursor}
use Rattle.dine_front.specs.Cursors.{Follows}
use Rattle.dine_front.specs.Verdicts.{NoneMissing}
use Rattle.dine_front.proofs.cursors.opened.Given as goal

-- each pass so far was handed in, and has its cursor
abbrev pub invariant-loop-number : goal.invariant-loop-number
invariant-loop-number g l =
    record {
      places : length l.cursors ≡ 16;
      here : NoneMissing l.number l.passes;
      each : (history : List Entry) (k : ℕ) → k < l.number → (c : Cursor) → Follows l.passes history 0 k (slice_index_or l.cursors k c);
    }
