-- A journal that is gone on with.
use Rattle.std.proofs.Common.{◌≡◌, ◌≢◌, ◌⊎◌, inr, ℕ, List, [], ◌++◌, Option, Some, None, Result, Ok, Err, IfOk, IfSome, OnOk, sym, ap, ◌∙◌, subst}
use Rattle.std.specs.Io.KnownBytes.{Appends}
use Rattle.std.specs.List.{filter}
use Rattle.dine_words.specs.declared.entry.Entry.{Entry}
use Rattle.dine_words.specs.declared.limits.Limits.{Limits}
use Rattle.dine_words.specs.declared.version.JournalVersion.{JournalVersion}
use Rattle.dine_table.specs.History.{IsLegal, table_after}
use Rattle.dine_table.specs.Table.{Table, opening_table}
use Rattle.dine_words.specs.Versions.{written_version}
use Rattle.dine_replay.specs.declared.audit_answer.AuditFault.{AuditFault}
use Rattle.dine_replay.specs.declared.audit_answer.AuditFault.TheVariants as audit
use Rattle.dine_replay.specs.declared.audit_answer.Checked.{Checked}
use Rattle.dine_replay.specs.Audit.{TellsOfText}
use Rattle.dine_journal.specs.JournalText.{journal_text}
use Rattle.dine_journal.proofs.CallerLemmas.{text_of_version-append}
use Rattle.dine_replay.specs.declared.replayed.Replayed.{Replayed}
use Rattle.dine_replay.specs.Replaying.{IsRefusal, IsReplayed}
use Rattle.dine_replay.proofs.CallerLemmas.{legal-both}
use Rattle.dine_streams.specs.Lines.{seen_lines}
use Rattle.dine_serve.specs.Journals.{is_of_journal}
use Rattle.dine_serve.specs.Serving.{entries_from, history_of, said_to_input, standing_at}
use Rattle.dine_serve.proofs.CallerLemmas.{entry_lines-all, legal-lines, said_to_input-journal}
use Rattle.dine_streams.specs.declared.ended.Ended.{Ended}
use Rattle.dine_streams.specs.declared.ended.Ended.TheVariants as ended
use Rattle.dine_streams.specs.declared.ended.CliFault.{CliFault}
use Rattle.dine_replay.specs.AuditOutput.{audit_end, audit_output}
use Rattle.dine_cli.specs.Resumed.{HoldsJournal, IsGoneOn, IsResumed, version_fault}
use Rattle.dine_cli.specs.Resumed.Found.{Legal, Refused}
use Rattle.dine_words.specs.Texts.{text_of_lines}

-- ---- what is served behind a history

module _ (limits : Limits) (history : List Entry) (passes : Option ℕ) (input : List ℕ) where
  -- the text of the journal, with the lines of the calls that are served behind it, is that of the longer journal
  pub rest-text : journal_text limits history ++ text_of_lines (filter is_of_journal (said_to_input (standing_at (table_after limits history) passes) input)) ≡ journal_text limits (history ++ history_of (standing_at (table_after limits history) passes) input)
  rest-text =
      let s = standing_at (table_after limits history) passes in
      let lines : List (Option (List ℕ)) = seen_lines [] input in
      ap (λ l. journal_text limits history ++ text_of_lines l) (said_to_input-journal s input)
      ∙ ap (λ l. journal_text limits history ++ l) (entry_lines-all (entries_from s lines))
      ∙ sym (text_of_version-append written_version limits history (entries_from s lines))

  -- which is legal where the history was
  pub rest-legal : IsLegal limits history → IsLegal limits (history ++ history_of (standing_at (table_after limits history) passes) input)
  rest-legal legal =
      let s = standing_at (table_after limits history) passes in
      let lines : List (Option (List ℕ)) = seen_lines [] input in
      legal-both (opening_table limits) history (entries_from s lines) legal (legal-lines s lines)

-- ---- what a replay found

-- what was replayed is a journal
pub holds : (text : List ℕ) (r : Replayed) → IsReplayed text r → (limits : Limits) × (history : List Entry) × HoldsJournal r.version limits history text × (r.arbiter.table ≡ table_after limits history)
holds text r p =
    let b = p.before in (
      b.limits,
      b.history,
      record { torn = p.torn; whole = b.whole; one = p.one; allowed = b.allowed; fit = b.fit; legal = b.legal },
      b.table,
    )

-- what holds where this table was left, holds of the text
pub left-behind : (known : Option (List ℕ)) (r : Replayed) (P : List ℕ → Type 0) (Q : JournalVersion → Table → Type 0) → IfSome known (λ text. IsReplayed text r) → Q r.version r.arbiter.table → ((text : List ℕ) (limits : Limits) (history : List Entry) → HoldsJournal r.version limits history text → Q r.version (table_after limits history) → P text) → IfSome known P
left-behind None r P Q replayed q follows = tt
left-behind (Some text) r P Q replayed q follows =
    let (limits, history, held, is) = holds text r replayed in
    follows text limits history held (subst (λ (t : Table). Q r.version t) is q)

-- what was left behind a journal, where something else may hold in its place
pub left-behind_or : (known : Option (List ℕ)) (r : Replayed) (K : Type 0) (Q : JournalVersion → Table → Type 0) → IfSome known (λ text. IsReplayed text r) → Q r.version r.arbiter.table → IfSome known (λ text. K ⊎ ((version : JournalVersion) × (limits : Limits) × (history : List Entry) × HoldsJournal version limits history text × Q version (table_after limits history)))
left-behind_or known r K Q replayed left =
    left-behind known r (λ text. K ⊎ ((version : JournalVersion) × (limits : Limits) × (history : List Entry) × HoldsJournal version limits history text × Q version (table_after limits history))) Q replayed left
    (λ text limits history held said. inr (r.version, limits, history, held, said))

-- so of the result of a run
pub left-behind_ok : (passes : Option ℕ) (known input old new : Option (List ℕ)) (r : Replayed) (outcome : Result Ended CliFault) → IfSome known (λ text. IsReplayed text r) → IfOk outcome (λ end. IsGoneOn passes r.version r.arbiter.table input old new end) → IfOk outcome (λ end. IfSome known (λ text. IsResumed passes text input old new end))
left-behind_ok passes known input old new r (Ok end) replayed on = left-behind known r (λ text. IsResumed passes text input old new end) (λ v t. IsGoneOn passes v t input old new end) replayed on (λ text limits history held said. (Legal r.version limits history, held, said))
left-behind_ok passes known input old new r (Err fault) replayed on = tt

-- a fault that was found
pub refused_ok : (passes : Option ℕ) (known input old new : Option (List ℕ)) (fault : AuditFault) (outcome : Result Ended CliFault) → IfSome known (λ text. IsRefusal text fault) → OnOk outcome (TellsOfText {X = Checked} (Err fault)) → OnOk outcome (Appends old new (audit_output (Err fault))) → IfOk outcome (λ end. end ≡ audit_end (Err fault)) → IfOk outcome (λ end. IfSome known (λ text. IsResumed passes text input old new end))
refused_ok passes None input old new fault (Ok end) refusal tells written ends = tt
refused_ok passes (Some text) input old new fault (Ok end) refusal tells written ends = (Refused fault, (tells, refusal), (written, ends))
refused_ok passes known input old new fault (Err e) refusal tells written ends = tt

-- a fault that tells of a text is none of reading, and where reading was at fault alone, nothing else was
pub unmarked : (fault : AuditFault) (outcome : Result Ended CliFault) (A : Type 0) → OnOk outcome (TellsOfText {X = Checked} (Err fault)) → (◌≢◌ {A = Result Replayed AuditFault} (Err fault) (Err audit.Read) → A) → OnOk outcome A
unmarked fault (Ok end) A tells alone = alone (λ same. let is : fault ≡ audit.Read = cc in subst (λ (f : AuditFault). TellsOfText {X = Checked} (Err f)) is tells)
unmarked fault (Err e) A tells alone = tt

-- what holds in any case holds where a run ends well
pub in_any_case : {A : Type 0} (outcome : Result Ended CliFault) → A → OnOk outcome A
in_any_case (Ok end) holds = holds
in_any_case (Err fault) holds = tt

-- a journal of the other version is told of, and the run ends so
pub version_told : (old new : Option (List ℕ)) (outcome : Result Ended CliFault) → OnOk outcome (Appends old new version_fault) → IfOk outcome (λ end. end ≡ ended.Fault) → IfOk outcome (λ end. Appends old new version_fault × (end ≡ ended.Fault))
version_told old new (Ok end) written ends = (written, ends)
version_told old new (Err fault) written ends = tt
