-- What is told of a text whose entries aren't kept.
use Rattle.std.specs.Prelude.{◌≡◌, ℕ, List, length, Result, Ok, Err}
use Rattle.dine_replay.specs.declared.audit_answer.AuditFault.{AuditFault}
use Rattle.dine_replay.specs.declared.audit_answer.Checked.{Checked}
use Rattle.dine_journal.specs.JournalText.{IsTextOf}
use Rattle.dine_replay.specs.Audit.{IsAnswer}
use Rattle.dine_journal.specs.Kept.{Journal}
use Rattle.dine_journal.specs.Overtakes.{most_overtaken}

-- the text is that of a legal journal, with so many entries, and the most that anybody is overtaken in it is as told
pub record IsCountedJournal (text : List ℕ) (checked : Checked) : Type 0 where
  pub journal : Journal
  pub text_of : IsTextOf text journal
  pub entries : checked.entries ≡ length journal.entries
  pub most : checked.most_overtakes ≡ most_overtaken journal.limits journal.entries

-- a success tells of a legal journal's text, and a fault is the one that the text has
abbrev pub IsChecked : List ℕ → Result Checked AuditFault → Type 0
IsChecked text (Ok checked) = IsCountedJournal text checked
IsChecked text (Err fault) = IsAnswer text (Err fault)
