use Rattle.std.proofs.Common.{◌≡◌, ◌++◌, take}
use Rattle.dine_chart.specs.Page.{rows_text}
use Rattle.dine_chart.proofs.page.push_rows.Given as goal

-- the rows so far are written
abbrev pub invariant-loop-lane : goal.invariant-loop-lane
invariant-loop-lane l = l.out.items ≡ l.initial.out.items ++ rows_text l.picture (take l.lane-index l.picture.lanes.items)
