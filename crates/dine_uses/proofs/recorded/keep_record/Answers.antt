use Rattle.std.proofs.Common.{◌≡◌, Err, ap, subst, ◌∙◌}
use Rattle.std.specs.Prelude.{IfErr}
use Rattle.dine_words.specs.declared.limits.Limits.{Limits}
use Rattle.dine_table.specs.History.{IsLegal}
use Rattle.dine_replay.specs.declared.audit_answer.AuditFault.{AuditFault}
use Rattle.dine_replay.specs.declared.audit_answer.AuditFault.TheVariants.{Memory}
use Rattle.dine_journal.specs.JournalText.{journal_text}
use Rattle.dine_journal.specs.Overtakes.{most_overtaken}
use Rattle.dine_replay.proofs.CallerLemmas.{passed}
use Rattle.dine_uses.proofs.Recounting.{as_many, counts, only_memory, written}
use Rattle.dine_uses.proofs.recorded.keep_record.Goals as goal

-- the text is that of a legal journal, so its audit finds nothing but want of memory
pub returns-in_err-checked-clause-fault : goal.returns-in_err-checked-clause-fault
returns-in_err-checked-clause-fault c =
    let hall = c.make_all.new.hall in
    let journal = c.into_journal.ensures in
    let whole : c.deref.result.now ≡ journal_text hall.limits hall.history =
    c.deref.ensures.value ∙ c.in_ok-text.ensures ∙ ap (λ (l : Limits). journal_text l c.into_journal.result.entries) journal.limits ∙ ap (journal_text hall.limits) journal.entries in
    let is = written c.deref.result.now hall.limits c.args.calls.now hall.history c.in_ok-make_all.ensures.made journal.legal whole in
    passed (λ r. IfErr r (λ fault. fault ≡ Memory)) c.from_residual-in_err-checked.result c.in_err-checked.field-0.0 c.from_residual-in_err-checked.ensures.1
    (only_memory c.deref.result.now _ c.in_err-checked.field-0.0 is c.in_err-checked.ensures.answer (λ e. c.in_err-checked.ensures.reads_none (ap (λ (f : AuditFault). Err f) e)))

pub returns-clause-entries : goal.returns-clause-entries
returns-clause-entries c =
    let hall = c.make_all.new.hall in
    let journal = c.into_journal.ensures in
    let made = c.in_ok-make_all.ensures.made in
    let whole : c.deref.result.now ≡ journal_text hall.limits hall.history =
    c.deref.ensures.value ∙ c.in_ok-text.ensures ∙ ap (λ (l : Limits). journal_text l c.into_journal.result.entries) journal.limits ∙ ap (journal_text hall.limits) journal.entries in
    let is = written c.deref.result.now hall.limits c.args.calls.now hall.history made journal.legal whole in
    (counts c.deref.result.now _ c.in_ok-checked.checked is c.in_ok-checked.ensures.answer).0 ∙ as_many c.args.calls.now hall.history made

pub returns-clause-recorded : goal.returns-clause-recorded
returns-clause-recorded c =
    let hall = c.make_all.new.hall in
    let journal = c.into_journal.ensures in
    let made = c.in_ok-make_all.ensures.made in
    let of_result = c.in_ok-text.ensures ∙ ap (λ (l : Limits). journal_text l c.into_journal.result.entries) journal.limits ∙ ap (journal_text hall.limits) journal.entries in
    let whole : c.deref.result.now ≡ journal_text hall.limits hall.history = c.deref.ensures.value ∙ of_result in
    let is = written c.deref.result.now hall.limits c.args.calls.now hall.history made journal.legal whole in
    let limits : hall.limits ≡ c.args.limits = c.make_all.ensures.limits ∙ c.in_ok-hall.ensures.limits in (
      hall.history,
      record { legal = subst (λ (l : Limits). IsLegal l hall.history) limits journal.legal; calls_are = made.calls_are },
      of_result ∙ ap (λ (l : Limits). journal_text l hall.history) limits,
      (counts c.deref.result.now _ c.in_ok-checked.checked is c.in_ok-checked.ensures.answer).1 ∙ ap (λ (l : Limits). most_overtaken l hall.history) limits,
    )
