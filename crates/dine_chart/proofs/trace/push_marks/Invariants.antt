use Rattle.std.proofs.Common.{◌≡◌, ◌++◌, take}
use Rattle.dine_chart.specs.Trace.{events_text}
use Rattle.dine_chart.proofs.trace.push_marks.Given as goal

-- the events of the marks so far are written
abbrev pub invariant-loop-mark : goal.invariant-loop-mark
invariant-loop-mark l =
    l.out.items ≡ l.initial.out.items ++ events_text l.labels l.window (take l.mark-index l.marks)
