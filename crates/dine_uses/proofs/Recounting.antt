-- What was written of a history passes the audit.
use Rattle.std.proofs.Common.{◌≡◌, ◌≢◌, ℕ, ◌+◌, ◌<◌, List, [], ◌∷◌, ◌++◌, length, take, get_or, Result, Ok, Err, refl, sym, ap, ◌∙◌, subst}
use Rattle.std.proofs.lemmas.List.{length-map, map-append, take_more}
use Rattle.dine_words.specs.declared.call.Call.{Call}
use Rattle.dine_words.specs.declared.call.Reply.{Reply}
use Rattle.dine_words.specs.declared.entry.Entry.{Entry}
use Rattle.dine_words.specs.declared.limits.Limits.{Limits}
use Rattle.dine_table.specs.History.{IsLegal}
use Rattle.dine_words.specs.Texts.{IsEntryOf}
use Rattle.dine_words.specs.Versions.{written_version}
use Rattle.dine_table.proofs.CallerLemmas.{AllByRecursion-push}
use Rattle.dine_replay.specs.declared.audit_answer.AuditFault.{AuditFault}
use Rattle.dine_replay.specs.declared.audit_answer.AuditFault.TheVariants.{Header, Line, Wrong, Read, Memory}
use Rattle.dine_replay.specs.declared.audit_answer.Checked.{Checked}
use Rattle.dine_journal.specs.JournalText.{IsTextOf}
use Rattle.dine_replay.specs.Audit.{IsAnswer}
use Rattle.dine_replay.specs.Checking.{IsCountedJournal}
use Rattle.dine_journal.specs.JournalText.{journal_text}
use Rattle.dine_journal.specs.Kept.{Journal}
use Rattle.dine_journal.specs.Overtakes.{most_overtaken}
use Rattle.dine_replay.proofs.CallerLemmas.{one_answer}
use Rattle.dine_uses.specs.Recording.{HasMade}

-- ---- calls, one after the other

-- before the first call the history is empty
pub made_nothing : (calls : List Call) (history : List Entry) → history ≡ [] → HasMade (take 0 calls) history
made_nothing calls history none = subst (HasMade []) (sym none) record { calls_are = refl; fit = tt }

-- one more call is one more entry
pub made_more : (calls : List Call) (i : ℕ) (d : Call) (reply : Reply) (old new : List Entry) → i < length calls → HasMade (take i calls) old
    → IsEntryOf written_version (record { pass = 0; call = get_or calls i d; reply = reply })
    → new ≡ old ++ record { pass = 0; call = get_or calls i d; reply = reply } ∷ [] → HasMade (take (i + 1) calls) new
made_more calls i d reply old new inside made fits added =
    let e : Entry = record { pass = 0; call = get_or calls i d; reply = reply } in
    subst (HasMade (take (i + 1) calls)) (sym added) record {
      calls_are = map-append (λ (x : Entry). x.call) old (e ∷ []) ∙ ap (λ cs. cs ++ get_or calls i d ∷ []) made.calls_are ∙ sym (take_more calls i d inside);
      fit = AllByRecursion-push (IsEntryOf written_version) old e made.fit fits;
    }

-- ---- the audit

-- the text is that of the journal
pub written : (text : List ℕ) (limits : Limits) (calls : List Call) (history : List Entry) → HasMade calls history → IsLegal limits history → text ≡ journal_text limits history → IsTextOf text (record { limits = limits; entries = history })
written text limits calls history made legal is = record {
  version = written_version;
  whole = is;
  allowed = (limits.tasks_in_range, limits.conflicts_in_range);
  fit = made.fit;
  legal = legal;
}

-- a success is no error
ok_is_not_err : {A E : Type 0} (x : A) (e : E) → Ok x ≡ Err e → ⊥
ok_is_not_err x e h = cc

-- the journal of an audit's answer, or else another
journal_or : Journal → Result Journal AuditFault → Journal
journal_or d (Ok journal) = journal
journal_or d (Err fault) = d

-- the one fault that its audit can find is want of memory
pub only_memory : (text : List ℕ) (journal : Journal) (fault : AuditFault) → IsTextOf text journal → IsAnswer text (Err fault) → fault ≢ Read → fault ≡ Memory
only_memory text journal Header is says known = absurd (ok_is_not_err journal Header (one_answer text (Ok journal) (Err Header) tt tt is says))
only_memory text journal (Line n) is says known = absurd (ok_is_not_err journal (Line n) (one_answer text (Ok journal) (Err (Line n)) tt tt is says))
only_memory text journal (Wrong n wanted) is says known = absurd (ok_is_not_err journal (Wrong n wanted) (one_answer text (Ok journal) (Err (Wrong n wanted)) tt tt is says))
only_memory text journal Read is says known = absurd (known refl)
only_memory text journal Memory is says known = refl

-- it counts the entries, and who is overtaken in them
pub counts : (text : List ℕ) (journal : Journal) (checked : Checked) → IsTextOf text journal → IsCountedJournal text checked → (checked.entries ≡ length journal.entries) × (checked.most_overtakes ≡ most_overtaken journal.limits journal.entries)
unfolding journal_or
counts text journal checked is counted =
    let same : counted.journal ≡ journal = ap (journal_or journal) (one_answer text (Ok counted.journal) (Ok journal) tt tt counted.text_of is) in
    (counted.entries ∙ ap (λ (j : Journal). length j.entries) same, counted.most ∙ ap (λ (j : Journal). most_overtaken j.limits j.entries) same)

-- there is an entry for each call
pub as_many : (calls : List Call) (history : List Entry) → HasMade calls history → length history ≡ length calls
as_many calls history made = sym (length-map history (λ (e : Entry). e.call)) ∙ ap length made.calls_are
