use Rattle.std.proofs.Common.{◌≡◌, Err, rules}
use Rattle.dine_streams.specs.declared.ended.CliFault.TheVariants.{Write}
use Rattle.dine_cli.specs.DrawingOutput.{IsDrawingWritten, IsPartlyDrawingWritten}
use Rattle.dine_cli.proofs.Drawings.{at_start, drawn, partly_drawn, reported_well, reported_write}
use Rattle.dine_cli.proofs.Traces.{of_text}
use Rattle.dine_cli.proofs.drawing.run_drawing.Goals as goal

pub returns-in_err-write_whole-clause-reported : goal.returns-in_err-write_whole-clause-reported
returns-in_err-write_whole-clause-reported g c =
    let old = g.W.Sink.contents c.args.writer.now in
    let new = g.W.Sink.contents c.write_whole.new.writer in
    let failed : c.from_residual-in_err-write_whole.result ≡ Err Write = search rules in
    reported_write _ old new (IsDrawingWritten c.args.drawing) (IsPartlyDrawingWritten c.args.drawing) _ failed
    (of_text (λ text. IsPartlyDrawingWritten c.args.drawing text old new) _ c.in_ok-text.text.items c.deref.result.now c.deref.ensures.value c.in_ok-text.ensures.bytes
    (partly_drawn c.deref.result.now _ old new c.in_ok-ended.ended c.args.drawing (at_start c.args.drawing c.deref.result.now _ _ _ c.in_ok-ended.ended c.new-output.ensures.items c.deref-2.ensures.value c.in_ok-ended.ensures.ok) c.in_err-write_whole.ensures.err))

pub returns-clause-reported : goal.returns-clause-reported
returns-clause-reported g c =
    let old = g.W.Sink.contents c.args.writer.now in
    let new = g.W.Sink.contents c.write_whole.new.writer in
    reported_well _ old new (IsDrawingWritten c.args.drawing) (IsPartlyDrawingWritten c.args.drawing) c.in_ok-ended.ended
    (of_text (λ text. IsDrawingWritten c.args.drawing text old new c.in_ok-ended.ended) _ c.in_ok-text.text.items c.deref.result.now c.deref.ensures.value c.in_ok-text.ensures.bytes
    (drawn c.deref.result.now _ old new c.in_ok-ended.ended c.args.drawing (at_start c.args.drawing c.deref.result.now _ _ _ c.in_ok-ended.ended c.new-output.ensures.items c.deref-2.ensures.value c.in_ok-ended.ensures.ok) c.in_ok-write_whole.ensures.ok))
