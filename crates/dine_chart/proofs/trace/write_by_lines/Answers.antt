use Rattle.std.proofs.Common.{◌≡◌, ◌+◌, ◌++◌, Bool, List, ℕ, Option, Result, Err, refl, ap, ◌∙◌, rules}
use Rattle.std.specs.Io.KnownBytes.{Appends}
use Rattle.dine_journal.specs.declared.text.TextFault.{TextFault}
use Rattle.dine_journal.specs.declared.text.TextFault.TheVariants.{Memory}
use Rattle.dine_bars.specs.declared.bar.Window.{Window}
use Rattle.dine_lines.specs.declared.label.Label.{Label}
use Rattle.dine_bars.specs.Marks.{last_marks}
use Rattle.dine_chart.specs.Ending.{AppendsFront, last_text}
use Rattle.dine_chart.specs.Reading.{IsTracedInPart}
use Rattle.dine_chart.specs.Trace.{trace_opening}
use Rattle.dine_chart.specs.Writing.{WritesTrace}
use Rattle.dine_chart.proofs.Joining.{of_error}
use Rattle.dine_chart.proofs.Outcomes.{on_err, on_ok}
use Rattle.dine_chart.proofs.Written.{traced-nothing, tracing-cut, tracing-end, tracing-end_cut, tracing-kept, tracing-moved, tracing-next, tracing-opening}
use Rattle.dine_chart.proofs.trace.write_by_lines.Goals as goal

-- where memory ran out, a first part of the trace was written, and the mark is as it was
out_of_memory : {X : Type 0} (text : List ℕ) (labels : List Label) (w : Window) (r : Result X TextFault) (old new : Option (List ℕ)) (before after : Bool)
    → r ≡ Err Memory → IsTracedInPart text labels w old new → after ≡ before → WritesTrace text labels w r old new before after
out_of_memory text labels w r old new before after is part same =
    record {
      ok = search (rules, is);
      err = of_error r _ part;
      mark = record { unmarked = search (rules, is); memory = λ _. same; failed = search (rules, is) };
    }

pub loop-entry-init : goal.loop-entry-init
loop-entry-init g c =
    let begins = c.in_ok-push_opening.ensures ∙ ap (λ (l : List ℕ). l ++ trace_opening) c.requires.none_waits in
    record {
      traces = tracing-opening c.args.text.now c.args.labels.now c.args.window c.in-Some.header.version c.in-Some.header.limits (g.W.Sink.contents c.args.writer.now) c.in-Some.rest.now c.push_opening.new.out.items c.in_ok-drawing.drawing c.requires.legal c.in-Some.ensures.allowed c.in-Some.ensures.found c.in_ok-drawing.ensures begins;
      empty = c.requires.none_ended;
      mark = refl;
    }

pub loop-entry-preserved : goal.loop-entry-preserved
loop-entry-preserved g c =
    let found = c.in-Some-read_line.ensures in
    let wrote = c.in_ok-write_if_enough.ensures in
    let pushed = c.in_ok-push_entry.ensures in
    let i = c.loop-entry.invariant in
    let before = g.W.Sink.contents c.args.writer.now in
    let now = g.W.Sink.contents c.loop-entry.writer in
    let next = g.W.Sink.contents c.write_if_enough.new.writer in
    let v = c.in-Some.header.version in
    let limits = c.in-Some.header.limits in
    let moved = tracing-moved c.args.text.now c.args.labels.now c.args.window v limits before now c.loop-entry.lines.items c.loop-entry.rest.now c.loop-entry.drawing i.traces next c.write_if_enough.new.lines.items wrote.ok in
    record {
      traces = tracing-next c.args.text.now c.args.labels.now c.args.window v limits before next c.write_if_enough.new.lines.items c.loop-entry.rest.now c.loop-entry.drawing moved c.in-Some-read_line.entry c.in-Some-read_line.after.now c.push_entry.new.out.items c.push_entry.new.drawing found.fits found.found pushed.drawn pushed.events;
      empty = pushed.empty;
      mark = wrote.unmarked ∙ i.mark;
    }

pub returns-in_err-drawing : goal.returns-in_err-drawing
returns-in_err-drawing g c =
    out_of_memory _ _ _ _ _ _ _ _ (search rules) (traced-nothing c.args.text.now c.args.labels.now c.args.window _ c.requires.legal) refl

pub returns-in_err-push_opening : goal.returns-in_err-push_opening
returns-in_err-push_opening g c =
    out_of_memory _ _ _ _ _ _ _ _ (search rules) (traced-nothing c.args.text.now c.args.labels.now c.args.window _ c.requires.legal) refl

pub returns-in_err-write_if_enough : goal.returns-in_err-write_if_enough
returns-in_err-write_if_enough g c =
    let cut = c.in_err-write_if_enough.ensures.err in
    record {
      ok = search rules;
      err = of_error _ _ (tracing-cut c.args.text.now c.args.labels.now c.args.window _ _ _ _ c.loop-entry.lines.items c.loop-entry.rest.now c.loop-entry.drawing c.loop-entry.invariant.traces _ cut.0 cut.1);
      mark = search rules;
    }

pub returns-in_err-push_entry : goal.returns-in_err-push_entry
returns-in_err-push_entry g c =
    let i = c.loop-entry.invariant in
    let now = g.W.Sink.contents c.loop-entry.writer in
    let next = g.W.Sink.contents c.write_if_enough.new.writer in
    let moved = tracing-moved c.args.text.now c.args.labels.now c.args.window _ _ _ now c.loop-entry.lines.items c.loop-entry.rest.now c.loop-entry.drawing i.traces next c.write_if_enough.new.lines.items c.in_ok-write_if_enough.ensures.ok in
    let kept = tracing-kept c.args.text.now c.args.labels.now c.args.window _ _ _ next c.write_if_enough.new.lines.items c.loop-entry.rest.now c.loop-entry.drawing moved in
    out_of_memory _ _ _ _ _ _ _ _ (search rules) kept (c.in_ok-write_if_enough.ensures.unmarked ∙ i.mark)

pub returns : goal.returns
returns g c =
    let now = g.W.Sink.contents c.loop-entry.writer in
    let next = g.W.Sink.contents c.write_end.new.writer in
    let wrote = c.write_end.ensures in
    let i = c.loop-entry.invariant in
    let all = c.loop-entry.lines.items ++ last_text c.args.labels.now c.args.window c.loop-entry.drawing in
    record {
      ok =
          on_ok (Appends now next all) _ c.write_end.result
          (tracing-end c.args.text.now c.args.labels.now c.args.window _ _ _ now c.loop-entry.lines.items c.loop-entry.rest.now c.loop-entry.drawing i.traces c.in_default-read_line.ensures.none (last_marks (c.loop-entry.drawing.place + 1) c.loop-entry.drawing.begun) refl _ refl next)
          wrote.ok;
      err =
          on_err (AppendsFront now next all) _ c.write_end.result
          (λ cut. tracing-end_cut c.args.text.now c.args.labels.now c.args.window _ _ _ now c.loop-entry.lines.items c.loop-entry.rest.now c.loop-entry.drawing i.traces c.in_default-read_line.ensures.none (last_marks (c.loop-entry.drawing.place + 1) c.loop-entry.drawing.begun) refl _ refl next cut.0 cut.1)
          wrote.err;
      mark = record {
        unmarked =
            on_ok (g.W.Sink.mark c.write_end.new.writer ≡ g.W.Sink.mark c.loop-entry.writer) (g.W.Sink.mark c.write_end.new.writer ≡ g.W.Sink.mark c.args.writer.now) c.write_end.result
            (λ same. same ∙ i.mark) wrote.mark.unmarked;
        memory = λ failed. wrote.mark.memory failed ∙ i.mark;
        failed = wrote.mark.failed;
      };
    }
