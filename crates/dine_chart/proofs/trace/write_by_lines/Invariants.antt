use Rattle.std.proofs.Common.{◌≡◌, [], length}
use Rattle.dine_chart.proofs.Written.{IsTracing}
use Rattle.dine_chart.proofs.trace.write_by_lines.Given as goal

-- what was written and what waits are the trace of the marks so far
abbrev pub invariant-loop-entry : goal.invariant-loop-entry
invariant-loop-entry g l =
    record {
      traces : IsTracing l.text l.labels l.window l.header.version l.header.limits (g.W.Sink.contents l.initial.writer) (g.W.Sink.contents l.writer) l.lines.items l.rest l.drawing;
      empty : l.ended.items ≡ [];
      mark : g.W.Sink.mark l.writer ≡ g.W.Sink.mark l.initial.writer;
    }

-- each entry makes the rest of the text shorter
abbrev pub decreases-loop-entry : goal.decreases-loop-entry
decreases-loop-entry g l = length l.rest
