-- How a trace ends.
use Rattle.std.specs.Prelude.{ℕ, ◌+◌, List, ◌++◌, take, Option}
use Rattle.std.specs.Io.KnownBytes.{Appends}
use Rattle.dine_bars.specs.declared.bar.Window.{Window}
use Rattle.dine_bars.specs.Marks.{Drawing, last_marks}
use Rattle.dine_lines.specs.declared.label.Label.{Label}
use Rattle.dine_chart.specs.Trace.{events_text, trace_end}

-- the bars that go on behind what was drawn, and the end of the text
abbrev pub last_text : List Label → Window → Drawing → List ℕ
last_text labels w d = events_text labels w (last_marks (d.place + 1) d.begun) ++ trace_end

-- known bytes grow by a first part of these
abbrev pub AppendsFront : Option (List ℕ) → Option (List ℕ) → List ℕ → Type 0
AppendsFront old new bytes = (count : ℕ) × Appends old new (take count bytes)
