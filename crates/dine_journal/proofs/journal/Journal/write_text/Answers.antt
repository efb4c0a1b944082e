use Rattle.std.proofs.Common.{◌≡◌, ◌<◌, [], ◌∷◌, ◌++◌, length, arith, ap, ◌∙◌, append_assoc}
use Rattle.dine_words.specs.declared.entry.Entry.{Entry}
use Rattle.dine_words.specs.Texts.{entry_text}
use Rattle.dine_journal.specs.JournalText.{entry_line}
use Rattle.dine_journal.proofs.Pending.{after_failed_write, after_want_of_memory, pending-cut, pending-next, pending-moved}
use Rattle.dine_journal.proofs.journal.Journal.write_text.Goals as goal

pub returns-in_err-write_if_enough-clause-text : goal.returns-in_err-write_if_enough-clause-text
returns-in_err-write_if_enough-clause-text g c =
    let cut = c.in_err-write_if_enough.ensures.err in
    after_failed_write _ _ _ c.args.self.now c.from_residual-in_err-write_if_enough.ensures.1 (pending-cut _ _ _ _ _ _ _ cut.0 c.loop-place.invariant.pending cut.1)

pub returns-in_err-write_line_to-clause-text : goal.returns-in_err-write_line_to-clause-text
returns-in_err-write_line_to-clause-text g c =
    let waits = pending-moved _ _ _ _ _ _ _ _ c.loop-place.invariant.pending c.in_ok-write_if_enough.ensures.ok in
    after_want_of_memory _ _ _ c.args.self.now c.from_residual-in_err-write_line_to.ensures.1 (waits.written, waits.appended)

pub loop-place-preserved : goal.loop-place-preserved
loop-place-preserved g c =
    let waits = pending-moved _ _ _ _ _ _ _ _ c.loop-place.invariant.pending c.in_ok-write_if_enough.ensures.ok in
    let within : c.loop-place.place < length c.entries-history.result = omega arith in
    let line : c.write_line_to.new.out.items ≡ c.write_if_enough.new.lines.items ++ entry_line c.at.result =
    c.in_ok-write_line_to.ensures.ok ∙ append_assoc c.write_if_enough.new.lines.items (entry_text c.at.result) (10 ∷ []) in
    record {
      pending = pending-next _ _ _ _ _ _ _ c.loop-place.place _ c.entries-history.ensures.entries within (line ∙ ap (λ (e : Entry). c.write_if_enough.new.lines.items ++ entry_line e) (c.at.ensures c.at.result)) waits;
      mark = c.in_ok-write_if_enough.ensures.unmarked ∙ c.loop-place.invariant.mark;
    }

pub returns-in_err-write_whole-clause-text : goal.returns-in_err-write_whole-clause-text
returns-in_err-write_whole-clause-text g c =
    let cut = rw c.deref.ensures.value at c.in_err-write_whole.ensures.err in
    after_failed_write _ _ _ c.args.self.now c.from_residual-in_err-write_whole.ensures.1 (pending-cut _ _ _ _ _ _ _ cut.0 c.loop-place.invariant.pending cut.1)
