use Rattle.std.proofs.Common.{◌≡◌, drop}
use Rattle.dine_chart.specs.Picture.{row_from}
use Rattle.dine_chart.proofs.picture.row_in.Given as goal

-- the rest of the lanes gives the same, counted on
abbrev pub invariant-loop-lane : goal.invariant-loop-lane
invariant-loop-lane l =
    record {
      counted : l.row ≡ l.lane-index;
      rest : row_from l.row (drop l.lane-index l.lanes) l.task ≡ row_from 0 l.lanes l.task;
    }
