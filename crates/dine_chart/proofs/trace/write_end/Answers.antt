use Rattle.std.proofs.Common.{◌≡◌, ℕ, ◌+◌, List, [], ◌++◌, Option, ap, subst, ◌∙◌}
use Rattle.std.proofs.KnownBytes.{Appends-nil}
use Rattle.dine_bars.specs.declared.bar.Window.{Window}
use Rattle.dine_lines.specs.declared.label.Label.{Label}
use Rattle.dine_bars.specs.Marks.{Drawing, last_marks}
use Rattle.dine_bars.specs.declared.mark.Mark.{Mark}
use Rattle.dine_chart.specs.Ending.{AppendsFront, last_text}
use Rattle.dine_chart.specs.Trace.{events_text, trace_end}
use Rattle.dine_chart.proofs.Joining.{of_error}
use Rattle.std.specs.Io.KnownBytes.{Appends}
use Rattle.dine_chart.proofs.trace.write_end.Goals as goal

-- nothing is a first part of all that is to be written
nothing-written : (before : Option (List ℕ)) (bytes : List ℕ) → AppendsFront before before bytes
nothing-written before bytes = (0, Appends-nil before)

-- what stands behind the lines that waited, by the steps that wrote it
last-written : (labels : List Label) (w : Window) (d : Drawing) (waiting : List ℕ) (none ended marks : List Mark) (out lines : List ℕ)
    → none ≡ [] → ended ≡ none ++ last_marks (d.place + 1) d.begun → marks ≡ ended
    → out ≡ waiting ++ (events_text labels w marks ++ trace_end) → lines ≡ out → lines ≡ waiting ++ last_text labels w d
last-written labels w d waiting none ended marks out lines empty goes_on same written kept =
    kept ∙ written ∙ ap (λ (m : List Mark). waiting ++ (events_text labels w m ++ trace_end)) (same ∙ goes_on ∙ ap (λ (m : List Mark). m ++ last_marks (d.place + 1) d.begun) empty)

pub returns-in_err-end-clause-err : goal.returns-in_err-end-clause-err
returns-in_err-end-clause-err g c =
    of_error _ _ (nothing-written (g.W.Sink.contents c.args.writer.now) (c.args.lines.now.items ++ last_text c.args.labels.now c.args.window c.args.drawing.now))

pub returns-in_err-push_last-clause-err : goal.returns-in_err-push_last-clause-err
returns-in_err-push_last-clause-err g c =
    of_error _ _ (nothing-written (g.W.Sink.contents c.args.writer.now) (c.args.lines.now.items ++ last_text c.args.labels.now c.args.window c.args.drawing.now))

pub returns-in_err-write_whole-clause-err : goal.returns-in_err-write_whole-clause-err
returns-in_err-write_whole-clause-err g c =
    let all = last-written c.args.labels.now c.args.window c.args.drawing.now c.args.lines.now.items c.args.ended.now.items c.end.new.marks.items c.deref.result.now c.push_last.new.out.items c.deref-2.result.now c.requires.empty c.in_ok-end.ensures.ok c.deref.ensures.value c.in_ok-push_last.ensures c.deref-2.ensures.value in
    of_error _ _ (subst (λ (l : List ℕ). AppendsFront (g.W.Sink.contents c.args.writer.now) (g.W.Sink.contents c.write_whole.new.writer) l) all c.in_err-write_whole.ensures.err)

pub returns-clause-ok : goal.returns-clause-ok
returns-clause-ok g c =
    let all = last-written c.args.labels.now c.args.window c.args.drawing.now c.args.lines.now.items c.args.ended.now.items c.end.new.marks.items c.deref.result.now c.push_last.new.out.items c.deref-2.result.now c.requires.empty c.in_ok-end.ensures.ok c.deref.ensures.value c.in_ok-push_last.ensures c.deref-2.ensures.value in
    subst (λ (l : List ℕ). Appends (g.W.Sink.contents c.args.writer.now) (g.W.Sink.contents c.write_whole.new.writer) l) all c.in_ok-write_whole.ensures.ok
