-- What an audit answers to a text.
use Rattle.std.specs.Prelude.{◌≡◌, ◌≢◌, ℕ, ◌+◌, List, [], ◌∷◌, ◌++◌, length, Result, Ok, Err, Some}
use Rattle.dine_words.specs.declared.entry.Entry.{Entry}
use Rattle.dine_words.specs.declared.call.Reply.{Reply}
use Rattle.dine_table.specs.Table.{Table}
use Rattle.dine_table.specs.Calls.{reply_of, table_after_call}
use Rattle.dine_table.specs.History.{table_after, IsLegal}
use Rattle.dine_words.specs.declared.version.JournalVersion.{JournalVersion}
use Rattle.dine_words.specs.Reading.{answer_at}
use Rattle.dine_words.specs.Texts.{IsEntryOf}
use Rattle.dine_words.specs.Versions.{AllowsLimits}
use Rattle.dine_replay.specs.declared.audit_answer.AuditFault.{AuditFault}
use Rattle.dine_replay.specs.declared.audit_answer.AuditFault.TheVariants.{Header, Line, Wrong, Read, Memory}
use Rattle.dine_journal.specs.Kept.{Journal}
use Rattle.dine_words.specs.JournalText.{AllFit, HasNoEntry, HasNoHeader, entry_line, text_of_version}
use Rattle.dine_journal.specs.JournalText.{IsTextOf}

-- the lines before line n, the header's being line 0, are those of a legal journal, and line n is there and isn't that of an
-- entry of the header's version
pub record IsBrokenAt (text : List ℕ) (n : ℕ) : Type 0 where
  pub version : JournalVersion
  pub before : Journal
  pub rest : List ℕ
  pub begins : text ≡ text_of_version version before.limits before.entries ++ rest
  pub allowed : AllowsLimits version before.limits
  pub fit : AllFit version before.entries
  pub legal : IsLegal before.limits before.entries
  pub goes_on : rest ≢ []
  pub no_entry : HasNoEntry version rest
  pub line : n ≡ length before.entries + 1

-- the lines before line n, the header's being line 0, are those of a legal journal, and line n is that of an entry of the
-- header's version whose reply isn't the table's, which is `wanted`
pub record IsWrongAt (text : List ℕ) (n : ℕ) (wanted : Reply) : Type 0 where
  pub version : JournalVersion
  pub before : Journal
  pub entry : Entry
  pub rest : List ℕ
  pub begins : text ≡ text_of_version version before.limits before.entries ++ (entry_line entry ++ rest)
  pub allowed : AllowsLimits version before.limits
  pub fit : AllFit version before.entries
  pub entry_fits : IsEntryOf version entry
  pub legal : IsLegal before.limits before.entries
  pub says : wanted ≡ reply_of (table_after before.limits before.entries) entry.call
  pub other : entry.reply ≢ wanted
  pub line : n ≡ length before.entries + 1

-- the answer is the text's. Faults of reading and of memory say nothing of a text
abbrev pub IsAnswer : List ℕ → Result Journal AuditFault → Type 0
IsAnswer text (Ok journal) = IsTextOf text journal
IsAnswer text (Err Header) = HasNoHeader text
IsAnswer text (Err (Line n)) = IsBrokenAt text n
IsAnswer text (Err (Wrong n wanted)) = IsWrongAt text n wanted
IsAnswer text (Err Read) = Unit {0}
IsAnswer text (Err Memory) = Unit {0}

-- the answer tells of the text, and not of a fault of reading or of memory
abbrev pub TellsOfText : {X : Type 0} → Result X AuditFault → Type 0
TellsOfText (Ok answer) = Unit {0}
TellsOfText (Err Header) = Unit {0}
TellsOfText (Err (Line n)) = Unit {0}
TellsOfText (Err (Wrong n wanted)) = Unit {0}
TellsOfText (Err Read) = ⊥
TellsOfText (Err Memory) = ⊥

-- the call of an entry of the version, whose line is at the front of the text, before the rest, is made again on the old
-- table and gets the reply of the entry
pub record Repeats
    (version : JournalVersion) (old new : Table) (text : List ℕ) (e : Entry) (rest : List ℕ) : Type 0 where
  pub fits : IsEntryOf version e
  pub front : text ≡ entry_line e ++ rest
  pub says : e.reply ≡ reply_of old e.call
  pub leaves : new ≡ table_after_call old e.call

-- a line with this number is refused where the calls before it left the table: it isn't an entry's of the version, or its
-- reply isn't the table's
abbrev pub IsRefusedBy : JournalVersion → Table → ℕ → List ℕ → AuditFault → Type 0
IsRefusedBy version t number text Header = ⊥
IsRefusedBy version t number text (Line n) = HasNoEntry version text × (n ≡ number)
IsRefusedBy version t number text (Wrong n wanted) =
    (e : Entry) × (rest : List ℕ) × (text ≡ entry_line e ++ rest) × IsEntryOf version e
    × (wanted ≡ reply_of t e.call) × (e.reply ≢ wanted) × (n ≡ number)
IsRefusedBy version t number text Read = ⊥
IsRefusedBy version t number text Memory = ⊥

-- what a line with this number says after its call isn't the reply that the call got
abbrev pub IsUntold : ℕ → Reply → List ℕ → AuditFault → Type 0
IsUntold number reply asked Header = ⊥
IsUntold number reply asked (Line n) =
    ((told : Reply) (rest : List ℕ) → answer_at asked ≢ Some (told, 10 ∷ rest)) × (n ≡ number)
IsUntold number reply asked (Wrong n wanted) =
    (told : Reply) × (rest : List ℕ) × (answer_at asked ≡ Some (told, 10 ∷ rest))
    × (reply ≢ told) × (wanted ≡ reply) × (n ≡ number)
IsUntold number reply asked Read = ⊥
IsUntold number reply asked Memory = ⊥
