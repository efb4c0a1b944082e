use Rattle.std.proofs.Common.{ℕ, List, sym, ◌∙◌, subst}
use Rattle.dine_journal.specs.JournalText.{IsTextOf}
use Rattle.dine_cli.specs.TraceOutput.{IsPartlyTraceWritten}
use Rattle.dine_cli.proofs.Traces.{of_text, trace_of_none_in_part, trace_of_none_ok}
use Rattle.dine_cli.proofs.trace.run_trace.Goals as goal

pub trace_legal-requires : goal.trace_legal-requires
trace_legal-requires g c =
    let is = c.in-Ok.ensures.answer in
    record { counted = (is.journal, subst (λ (l : List ℕ). IsTextOf l is.journal) (c.deref.ensures.value ∙ sym c.deref-in-Ok.ensures.value) is.text_of, is.entries) }

pub returns-in-Err-clause-write : goal.returns-in-Err-clause-write
returns-in-Err-clause-write g c = λ failed. (
    let part = c.write_answer.ensures.write failed in
    let old = g.W.Sink.contents c.args.writer.now in
    let new = g.W.Sink.contents c.write_answer.new.writer in
    of_text (λ text. IsPartlyTraceWritten c.args.trace text old new) _ c.in_ok-text.text.items c.deref.result.now c.deref.ensures.value c.in_ok-text.ensures.bytes
    (trace_of_none_in_part c.args.trace c.deref.result.now old new c.in-Err.fault c.in-Err.ensures.answer part.0 part.1))

pub returns-in-Err-clause-ok : goal.returns-in-Err-clause-ok
returns-in-Err-clause-ok g c =
    let said = c.write_answer.ensures in
    trace_of_none_ok c.args.trace _ c.in_ok-text.text.items c.deref.result.now _ _ c.in-Err.fault c.write_answer.result c.deref.ensures.value c.in_ok-text.ensures.bytes c.in-Err.ensures.answer said.tells said.written said.ended
