-- The table at a place of the journal whose text is read a second time.
use Rattle.std.specs.Prelude.{◌≡◌, ℕ, List, take}
use Rattle.dine_table.specs.History.{table_after}
use Rattle.dine_table.specs.Table.{Table}
use Rattle.dine_journal.specs.JournalText.{IsTextOf}
use Rattle.dine_journal.specs.Kept.{Journal}

-- the table is that after so many entries of the journal whose text this is
pub record StandsAt (text : List ℕ) (place : ℕ) (t : Table) : Type 0 where
  pub journal : Journal
  pub text_of : IsTextOf text journal
  pub table : t ≡ table_after journal.limits (take place journal.entries)
