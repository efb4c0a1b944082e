use Rattle.std.proofs.Common.{◌≡◌, ◌++◌, take}
use Rattle.dine_chart.specs.Graph.{edges_text}
use Rattle.dine_chart.proofs.graph.push_edges.Given as goal

-- the texts of those so far are written
abbrev pub invariant-loop-task : goal.invariant-loop-task
invariant-loop-task l = l.out.items ≡ l.initial.out.items ++ edges_text l.arbiter.table (take l.task-index l.tasks)
