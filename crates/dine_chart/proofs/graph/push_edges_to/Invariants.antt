use Rattle.std.proofs.Common.{◌≡◌, ◌++◌, take}
use Rattle.dine_chart.specs.Graph.{edges_to}
use Rattle.dine_chart.proofs.graph.push_edges_to.Given as goal

-- the texts of those so far are written
abbrev pub invariant-loop-neighbour : goal.invariant-loop-neighbour
invariant-loop-neighbour l = l.out.items ≡ l.initial.out.items ++ edges_to l.arbiter.table l.task (take l.neighbour-index l.neighbours)
