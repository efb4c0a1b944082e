use Rattle.std.proofs.Common.{◌≡◌, ◌-◌}
use Rattle.dine_chart.specs.Graph.{present}
use Rattle.dine_chart.proofs.Standings.{IsStanding}
use Rattle.dine_chart.proofs.standing.Standing.at.Given as goal

-- the table, with the entries up to the place that are left, comes to that of all of them
abbrev pub invariant-loop-done : goal.invariant-loop-done
invariant-loop-done l =
    record {
      stands : IsStanding l.text l.place l.header.version l.header.limits l.rest l.done l.standing.arbiter.table;
      order : l.standing.order.items ≡ present l.standing.arbiter.table;
    }

-- each entry leaves fewer up to the place
abbrev pub decreases-loop-done : goal.decreases-loop-done
decreases-loop-done l = l.place - l.done
