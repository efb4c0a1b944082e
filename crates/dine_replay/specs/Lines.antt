-- Lines of a journal that are replayed on an arbiter.
use Rattle.std.specs.Prelude.{◌≡◌, ◌≢◌, ℕ, ◌+◌, ◌-◌, ◌^◌, ◌<◌, false, ◌||◌, List, [], ◌++◌, length}
use Rattle.dine_words.specs.declared.entry.Entry.{Entry}
use Rattle.dine_words.specs.declared.header.Header.{Header}
use Rattle.dine_words.specs.declared.version.JournalVersion.{JournalVersion}
use Rattle.dine_table.specs.Table.{Table, opening_table}
use Rattle.dine_table.specs.History.{IsLegalFrom, table_from}
use Rattle.dine_replay.specs.declared.audit_answer.AuditFault.{AuditFault}
use Rattle.dine_replay.specs.declared.audit_answer.AuditFault.TheVariants.{Header as header, Line, Wrong, Read, Memory}
use Rattle.dine_words.specs.JournalText.{AllFit}
use Rattle.dine_replay.specs.Audit.{IsRefusedBy}
use Rattle.dine_journal.specs.JournalText.{entry_lines}
use Rattle.dine_journal.specs.Overtaking.{overtakes_somebody, some_entry}
use Rattle.dine_replay.specs.declared.replayed.Replayed.{Replayed}
use Rattle.dine_replay.specs.Noting.{Telling, TellsAll}
use Rattle.dine_replay.specs.Replaying.{IsReplayedBefore}

-- a header alone was replayed
pub record IsOpened (header : Header) (new : Replayed) : Type 0 where
  pub version : new.version ≡ header.version
  pub table : new.arbiter.table ≡ opening_table header.limits
  pub counted : new.entries ≡ 0
  pub noted : new.is_overtaken ≡ false

-- the text is that of some entries, each with the reply of the table, which were replayed and told
pub record AddsLines (old new : Replayed) (was is : Telling) (text : List ℕ) : Type 0 where
  pub history : List Entry
  pub whole : text ≡ entry_lines history
  pub fit : AllFit old.version history
  pub legal : IsLegalFrom old.arbiter.table history
  pub version : new.version ≡ old.version
  pub table : new.arbiter.table ≡ table_from old.arbiter.table history
  pub counted : new.entries ≡ old.entries + length history
  pub few : new.entries < 2 ^ 64 - 1
  pub noted : new.is_overtaken ≡ (old.is_overtaken || some_entry overtakes_somebody old.arbiter.table history)
  pub torn_before : new.is_torn ≡ old.is_torn
  pub tells : TellsAll was is history

-- the text begins with some entries, each with the reply of the table, and the line after them was refused. This many
-- entries came before the text
pub record IsRefusedIn
    (version : JournalVersion) (t : Table) (before : ℕ) (text : List ℕ) (fault : AuditFault) : Type 0 where
  pub history : List Entry
  pub rest : List ℕ
  pub begins : text ≡ entry_lines history ++ rest
  pub fit : AllFit version history
  pub legal : IsLegalFrom t history
  pub goes_on : rest ≢ []
  pub refused : IsRefusedBy version (table_from t history) (before + length history + 1) rest fault

-- a line of the text was refused, or there may be more entries than are counted, or memory was wanting
abbrev pub IsStoppedIn : JournalVersion → Table → ℕ → List ℕ → AuditFault → Type 0
IsStoppedIn version t before text header = ⊥
IsStoppedIn version t before text (Line n) = IsRefusedIn version t before text (Line n)
IsStoppedIn version t before text (Wrong n wanted) = IsRefusedIn version t before text (Wrong n wanted)
IsStoppedIn version t before text Read = 2 ^ 64 - 2 < before + length text
IsStoppedIn version t before text Memory = Unit {0}

-- the text is that of a legal history, and what it leaves was replayed. The visitor was told all of it
pub record IsReplayedWhole (was is : Telling) (text : List ℕ) (replayed : Replayed) : Type 0 where
  pub before : IsReplayedBefore text [] replayed
  pub tells : TellsAll was is before.history
