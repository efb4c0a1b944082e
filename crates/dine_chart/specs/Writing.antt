-- How a function ends that writes a trace.
use Rattle.std.specs.Prelude.{ℕ, Bool, List, Option, Result, OnErr, OnOk}
use Rattle.dine_journal.specs.declared.text.TextFault.{TextFault}
use Rattle.dine_journal.specs.Marks.{IsWriterMarked}
use Rattle.dine_bars.specs.declared.bar.Window.{Window}
use Rattle.dine_lines.specs.declared.label.Label.{Label}
use Rattle.dine_chart.specs.Reading.{IsTraced, IsTracedInPart}

-- all of the trace is written, or where an error comes a first part of it. The writer is marked where a write failed, and
-- else its mark is as it was
pub record WritesTrace
    {X : Type 0} (text : List ℕ) (labels : List Label) (w : Window) (result : Result X TextFault)
    (old new : Option (List ℕ)) (before after : Bool) : Type 0 where
  pub ok : OnOk result (IsTraced text labels w old new)
  pub err : OnErr result (IsTracedInPart text labels w old new)
  pub mark : IsWriterMarked result before after
