use Rattle.std.proofs.Common.{◌≡◌, ◌++◌, take}
use Rattle.dine_chart.specs.Graph.{nodes_text}
use Rattle.dine_chart.proofs.graph.push_nodes.Given as goal

-- the texts of those so far are written
abbrev pub invariant-loop-task : goal.invariant-loop-task
invariant-loop-task l = l.out.items ≡ l.initial.out.items ++ nodes_text l.labels l.arbiter.table (take l.task-index l.tasks)
