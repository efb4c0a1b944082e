use Rattle.std.proofs.Common.{◌≡◌, ◌+◌, ◌++◌, drop}
use mathlib.Core.List.{IsPrefix}
use Rattle.dine_bars.specs.Marks.{last_marks}
use Rattle.dine_bars.proofs.drawing.Drawing.end.Given as goal

-- the bars so far are handed out, behind the marks that stood there before, and those of the rest are still to be
abbrev pub invariant-loop-bar : goal.invariant-loop-bar
invariant-loop-bar l = record {
  handed : l.marks.items ++ last_marks (l.self.place + 1) (drop l.bar-index l.bar-items) ≡ l.initial.marks.items ++ last_marks (l.self.place + 1) l.self.begun;
  begins : IsPrefix l.initial.marks.items l.marks.items;
}
