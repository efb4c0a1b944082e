-- The text of a legal journal, and what of it was written.
use Rattle.std.specs.Prelude.{◌≡◌, ℕ, List, take, Option, Result, Ok, Err}
use Rattle.std.specs.Io.KnownBytes.{Appends}
pub use Rattle.dine_words.specs.JournalText.{entry_line, entry_lines, first_lines, header_line, header_line_of, journal_text, text_of_version}
use Rattle.dine_words.specs.JournalText.{AllFit}
use Rattle.dine_words.specs.Versions.{AllowsLimits}
use Rattle.dine_words.specs.declared.version.JournalVersion.{JournalVersion}
use Rattle.dine_table.specs.History.{IsLegal}
use Rattle.dine_journal.specs.declared.text.TextFault.{TextFault}
use Rattle.dine_journal.specs.declared.text.TextFault.TheVariants.{Write, Memory}
use Rattle.dine_journal.specs.Kept.{Journal}

-- the text is that of a legal journal, in one of the versions
pub record IsTextOf (text : List ℕ) (journal : Journal) : Type 0 where
  pub version : JournalVersion
  pub whole : text ≡ text_of_version version journal.limits journal.entries
  pub allowed : AllowsLimits version journal.limits
  pub fit : AllFit version journal.entries
  pub legal : IsLegal journal.limits journal.entries

-- what a writer took, by the answer: the whole text, after want of memory a first part in whole lines, and after a failed
-- write a first part
abbrev pub WritesText : {A : Type 0} → Option (List ℕ) → Option (List ℕ) → Journal → Result A TextFault → Type 0
WritesText old new journal (Ok done) = Appends old new (journal_text journal.limits journal.entries)
WritesText old new journal (Err Memory) = (n : ℕ) × Appends old new (first_lines n journal.limits journal.entries)
WritesText old new journal (Err Write) =
    (n : ℕ) × Appends old new (take n (journal_text journal.limits journal.entries))
