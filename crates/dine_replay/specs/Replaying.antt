-- What a journal that is replayed while it is read has left, and what is answered to it.
use Rattle.std.specs.Prelude.{◌≡◌, ◌≢◌, ◌↔◌, ℕ, ◌-◌, ◌^◌, ◌≤◌, ◌<◌, ◌⊎◌, Bool, true, IsTrue, List, [], ◌++◌, length, Option, IfSome, Result, Ok, Err}
use Rattle.std.specs.Io.KnownBytes.{Consumes}
use Rattle.dine_words.specs.declared.entry.Entry.{Entry}
use Rattle.dine_words.specs.declared.header.Header.{Header}
use Rattle.dine_words.specs.declared.limits.Limits.{Limits}
use Rattle.dine_table.specs.Table.{opening_table}
use Rattle.dine_table.specs.History.{IsLegal, table_after}
use Rattle.dine_words.specs.Versions.{AllowsLimits}
use Rattle.dine_replay.specs.declared.audit_answer.AuditFault.{AuditFault}
use Rattle.dine_replay.specs.declared.audit_answer.AuditFault.TheVariants.{Header as header, Line, Wrong, Read, Memory}
use Rattle.dine_words.specs.JournalText.{AllFit, HasNoHeader}
use Rattle.dine_replay.specs.Audit.{IsBrokenAt, IsWrongAt}
use Rattle.dine_replay.specs.Bounds.{IsMarkedOrPast, IsWithinBound}
use Rattle.dine_replay.specs.declared.bound.Bound.{Bound}
use Rattle.dine_journal.specs.JournalText.{header_line_of, text_of_version}
use Rattle.dine_journal.specs.Overtaking.{overtakes_somebody, some_entry}
use Rattle.dine_streams.specs.Heard.{LineBuffer}
use Rattle.dine_words.specs.Ranges.{most_bytes}
use Rattle.dine_streams.specs.Lines.{ended_lines, kept_of}
use Rattle.dine_replay.specs.declared.replayed.Replayed.{Replayed}

-- the text is that of a legal history, and then the rest. What the history leaves was replayed
pub record IsReplayedBefore (text rest : List ℕ) (replayed : Replayed) : Type 0 where
  pub limits : Limits
  pub history : List Entry
  pub whole : text ≡ text_of_version replayed.version limits history ++ rest
  pub allowed : AllowsLimits replayed.version limits
  pub fit : AllFit replayed.version history
  pub legal : IsLegal limits history
  pub table : replayed.arbiter.table ≡ table_after limits history
  pub counted : replayed.entries ≡ length history
  pub noted : replayed.is_overtaken ≡ some_entry overtakes_somebody (opening_table limits) history

-- the text is that of a legal history, and then of a last line that is torn, if there is one
pub record IsReplayed (text : List ℕ) (replayed : Replayed) : Type 0 where
  pub torn : List ℕ
  pub before : IsReplayedBefore text torn replayed
  pub one : ended_lines [] torn ≡ []
  pub is_torn : IsTrue replayed.is_torn ↔ (torn ≢ [])

-- the text doesn't consist of the front of a line, unless that is longer than a line may be
abbrev pub IsNotTorn : List ℕ → Type 0
IsNotTorn text = ended_lines [] text ≡ [] → most_bytes < length text

-- the text has this fault, as an audit finds it. A last line that lacks its line feed is no fault
abbrev pub IsRefusal : List ℕ → AuditFault → Type 0
IsRefusal text header = HasNoHeader text
IsRefusal text (Line n) = (broken : IsBrokenAt text n) × IsNotTorn broken.rest
IsRefusal text (Wrong n wanted) = IsWrongAt text n wanted
IsRefusal text Read = Unit {0}
IsRefusal text Memory = Unit {0}

-- the answer is the text's
abbrev pub IsReplay : List ℕ → Result Replayed AuditFault → Type 0
IsReplay text (Ok replayed) = IsReplayed text replayed
IsReplay text (Err fault) = IsRefusal text fault

-- a header's line was heard, and after it the rest of the lines that the buffer has, from this place on, and the front of a
-- line
pub record HearsHeader
    (before after : Option (List ℕ)) (buffer : LineBuffer) (header : Header) (place : ℕ) : Type 0 where
  pub heard : List ℕ
  pub rest : List ℕ
  pub begun : List ℕ
  pub consumed : Consumes before after heard
  pub whole : heard ≡ header_line_of header.version header.limits ++ (rest ++ begun)
  pub allowed : AllowsLimits header.version header.limits
  pub lines : buffer.lines ≡ header_line_of header.version header.limits ++ rest
  pub place_is : place ≡ length (header_line_of header.version header.limits)
  pub one : ended_lines [] begun ≡ []
  pub kept : buffer.begun ≡ kept_of begun

-- the reader is marked, or its bytes, where they are known, have no end for a number of 64 bits
abbrev pub IsMarkedOrEndless : Bool → Option (List ℕ) → Type 0
IsMarkedOrEndless mark known = (mark ≡ true) ⊎ IfSome known (λ bytes. 2 ^ 64 - 2 ≤ length bytes)

-- ---- while it is read

-- these bytes were heard, and there are these still. What all whole lines of them leave was replayed, and the buffer has the
-- front of the line after them
pub record IsReplaying (before after : Option (List ℕ)) (buffer : LineBuffer) (replayed : Replayed) : Type 0 where
  pub heard : List ℕ
  pub begun : List ℕ
  pub consumed : Consumes before after heard
  pub whole : IsReplayedBefore heard begun replayed
  pub one : ended_lines [] begun ≡ []
  pub kept : buffer.begun ≡ kept_of begun

-- some bytes were heard
abbrev pub IsReplayingSome : Option (List ℕ) → LineBuffer → Replayed → Type 0
IsReplayingSome after buffer replayed = (before : Option (List ℕ)) × IsReplaying before after buffer replayed

-- whatever was heard before, the whole text was replayed in the end
abbrev pub IsReplayedFrom : Option (List ℕ) → LineBuffer → Replayed → Replayed → Type 0
IsReplayedFrom after buffer old new =
    (before : Option (List ℕ)) → IsReplaying before after buffer old → IfSome before (λ text. IsReplayed text new)

-- whatever was heard before, the whole text has this fault
abbrev pub IsRefusalFrom : Option (List ℕ) → LineBuffer → Replayed → AuditFault → Type 0
IsRefusalFrom after buffer old fault =
    (before : Option (List ℕ)) → IsReplaying before after buffer old → IfSome before (λ text. IsRefusal text fault)

-- whatever was heard before, and however many bytes there may be, the reader is marked, or there are more
abbrev pub IsPastWhileReplaying : Bool → Option (List ℕ) → Bound → LineBuffer → Replayed → Type 0
IsPastWhileReplaying mark after bound buffer old =
    (most : ℕ) (before : Option (List ℕ)) → IsReplaying before after buffer old → IsWithinBound most before after bound → IsMarkedOrPast most mark before
