-- A line whose call was made again: what the comparing of its reply answers is what the line tells.
use Rattle.std.proofs.Common.{◌≡◌, ℕ, List, ◌∷◌, Some, Result, Ok, Err, IfErr, IfOk, Bor, sym, ◌∙◌}
use Rattle.dine_words.specs.declared.call.Call.{Call}
use Rattle.dine_words.specs.declared.call.Reply.{Reply}
use Rattle.dine_words.specs.declared.entry.Entry.{Entry}
use Rattle.dine_words.specs.declared.version.JournalVersion.{JournalVersion}
use Rattle.dine_words.specs.Reading.{answer_at, asked_at}
use Rattle.dine_words.proofs.CallerLemmas.{answered-fits, answered-found, unanswered}
use Rattle.dine_table.specs.Table.{Table}
use Rattle.dine_table.specs.Calls.{reply_of, table_after_call}
use Rattle.dine_replay.specs.Audit.{IsRefusedBy, IsUntold, Repeats}
use Rattle.dine_replay.specs.declared.audit_answer.AuditFault.{AuditFault}
use Rattle.dine_replay.specs.declared.audit_answer.AuditFault.TheVariants.{Header, Line, Memory, Read, Wrong}

-- a line at the front of a text, whose pass and call were read
module _ (v : JournalVersion) (text rest : List ℕ) (pass : ℕ) (asked : Call) (front : asked_at v text ≡ Some (pass, asked, rest)) where
  -- its call was made again, and got its reply
  pub answered-repeats : (old new : Table) (reply : Reply) (more : List ℕ) → answer_at rest ≡ Some (reply, 10 ∷ more) → reply ≡ reply_of old asked → new ≡ table_after_call old asked → Repeats v old new text (record { pass = pass; call = asked; reply = reply }) more
  answered-repeats old new reply more is says leaves = record { fits = answered-fits v text rest pass asked front reply more is; front = answered-found v text rest pass asked front reply more is; says = says; leaves = leaves }

  -- a line whose end was compared with the reply that its call got tells that call, where the reply stands there
  pub compared-ok : (old new : Table) (e : Entry) (reply : Reply) → e ≡ record { pass = pass; call = asked; reply = reply } → reply ≡ reply_of old asked → new ≡ table_after_call old asked → (o : Result (Entry × Bor (List ℕ)) AuditFault) → IfOk o (λ found. found.0 ≡ e) → IfOk o (λ found. answer_at rest ≡ Some (e.reply, 10 ∷ found.1.now)) → IfOk o (λ found. Repeats v old new text found.0 found.1.now)
  compared-ok old new e reply whole says leaves (Ok found) is told = rw (is, whole) (answered-repeats old new reply found.1.now (rw whole at told) says leaves)
  compared-ok old new e reply whole says leaves (Err fault) is told = tt

  -- and else the line is refused
  untold-refused : (t : Table) (line : ℕ) (reply : Reply) → reply ≡ reply_of t asked → (fault : AuditFault) → IsUntold line reply rest fault → IsRefusedBy v t line text fault
  untold-refused t line reply says Header untold = untold
  untold-refused t line reply says (Line n) untold = (unanswered v text rest pass asked front untold.0, untold.1)
  untold-refused t line reply says (Wrong n wanted) untold =
      let (told, more, is, other, wants, number) = untold in
      (record { pass = pass; call = asked; reply = told }, more, answered-found v text rest pass asked front told more is, answered-fits v text rest pass asked front told more is, wants ∙ says, (λ same. other (sym (same ∙ wants))), number)
  untold-refused t line reply says Read untold = untold
  untold-refused t line reply says Memory untold = untold

  -- so is what the comparing answers
  pub compared-err : (t : Table) (line : ℕ) (e : Entry) (reply : Reply) → e ≡ record { pass = pass; call = asked; reply = reply } → reply ≡ reply_of t asked → (o : Result (Entry × Bor (List ℕ)) AuditFault) → IfErr o (IsUntold line e.reply rest) → IfErr o (IsRefusedBy v t line text)
  compared-err t line e reply whole says (Ok found) untold = tt
  compared-err t line e reply whole says (Err fault) untold = untold-refused t line reply says fault (rw whole at untold)
