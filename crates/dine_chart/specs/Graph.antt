-- The text of a table as a graph in DOT: a node for each task that is present, and an edge for each conflict, from the
-- task whose last meal is the earlier to the other.
use Rattle.std.specs.Prelude.{◌≡◌, ℕ, not, if◌then◌else◌, List, [], ◌∷◌, ◌++◌, map, codes, Option, Some, None, unwrap_or}
use Rattle.std.specs.List.{filter, flat_map}
use Rattle.dine_words.specs.declared.call.Call.{Call}
use Rattle.dine_words.specs.declared.call.Call.TheVariants as call
use Rattle.dine_words.specs.declared.call.Reply.{Reply}
use Rattle.dine_words.specs.declared.call.Reply.TheVariants as reply
use Rattle.dine_words.specs.declared.task.State.{State}
use Rattle.dine_words.specs.declared.task.State.TheVariants.{Thinking, Hungry, Eating}
use Rattle.dine_words.specs.declared.task.Task.{Task}
use Rattle.dine_table.specs.Table.{Table, neighbours_if_present, same_task, stands_before, state_of}
use Rattle.dine_words.specs.Texts.{task_text}
use Rattle.dine_bars.specs.declared.bar.BarKind.{BarKind}
use Rattle.dine_bars.specs.declared.bar.BarKind.TheVariants.{Meal, KeptWaiting, MayBegin}
use Rattle.dine_bars.specs.Bars.{kind_at}
use Rattle.dine_lines.specs.declared.label.Label.{Label}
use Rattle.dine_chart.specs.declared.escape.Setting.TheVariants.{Dot}
use Rattle.dine_chart.specs.Picture.{given_in, name_in}

-- ---- nodes

-- a task as the name of a node
unfoldable pub node_name : Task → List ℕ
node_name t = codes "\"" ++ task_text t ++ codes "\""

-- what the task does, and how its node looks: the colours are those of the pictures
abbrev pub node_look : Option BarKind → List ℕ
node_look None = codes "\\nthinks\", color=\"#56b4e9\", fillcolor=\"#ffffff\"];\n"
node_look (Some Meal) = codes "\\neats\", color=\"#0072b2\", fillcolor=\"#0072b2\", fontcolor=\"#ffffff\"];\n"
node_look (Some KeptWaiting) = codes "\\nhungry, kept waiting\", color=\"#e69f00\", fillcolor=\"#fff6e0\"];\n"
node_look (Some MayBegin) = codes "\\nhungry, may begin\", color=\"#009e73\", fillcolor=\"#d9f2e9\"];\n"

-- the node of a task that does this: its name, and what it does
unfoldable pub node_text : List Label → Option BarKind → Task → List ℕ
node_text labels kind t =
    codes "  " ++ node_name t ++ codes " [label=\"" ++ name_in Dot (given_in labels t) t ++ node_look kind

-- the node of a task in the table
abbrev pub node_of : List Label → Table → Task → List ℕ
node_of labels t u = node_text labels (kind_at t u) u

-- the nodes of tasks, one after the other
abbrev pub nodes_text : List Label → Table → List Task → List ℕ
nodes_text labels t tasks = flat_map (node_of labels t) tasks

-- ---- edges

-- how an edge looks between two tasks in these states, of which the first goes before: strong where the first keeps the
-- second waiting, and broken where the first waits for the end of a meal of the second
abbrev pub edge_look : Option State → Option State → List ℕ
edge_look (Some Eating) (Some Hungry) = codes " [color=\"#e69f00\", penwidth=2];\n"
edge_look (Some Hungry) (Some Hungry) = codes " [color=\"#e69f00\", penwidth=2];\n"
edge_look (Some Hungry) (Some Eating) = codes " [color=\"#e69f00\", penwidth=2, style=dashed];\n"
edge_look None second = codes " [color=\"#888888\"];\n"
edge_look (Some Thinking) second = codes " [color=\"#888888\"];\n"
edge_look (Some Hungry) None = codes " [color=\"#888888\"];\n"
edge_look (Some Hungry) (Some Thinking) = codes " [color=\"#888888\"];\n"
edge_look (Some Eating) None = codes " [color=\"#888888\"];\n"
edge_look (Some Eating) (Some Thinking) = codes " [color=\"#888888\"];\n"
edge_look (Some Eating) (Some Eating) = codes " [color=\"#888888\"];\n"

-- the edge from the one task to the other, which looks so
unfoldable pub edge_text : List ℕ → Task → Task → List ℕ
edge_text look u v = codes "  " ++ node_name u ++ codes " -> " ++ node_name v ++ look

-- the edge from u to v, if u goes before v
abbrev pub edge_of : Table → Task → Task → List ℕ
edge_of t u v = if stands_before t.order u v then edge_text (edge_look (state_of t u) (state_of t v)) u v else []

-- there is an edge from u to v, and none back
abbrev pub IsEdge : Table → Task → Task → Type 0
IsEdge t u v = (edge_of t u v ≡ edge_text (edge_look (state_of t u) (state_of t v)) u v) × (edge_of t v u ≡ [])

-- the edges from u to those of some tasks that it goes before
abbrev pub edges_to : Table → Task → List Task → List ℕ
edges_to t u tasks = flat_map (edge_of t u) tasks

-- the edges that begin at a task: to its neighbours, in the order in which the conflicts were declared
abbrev pub edges_from : Table → Task → List ℕ
edges_from t u = edges_to t u (unwrap_or (neighbours_if_present t u) [])

-- the edges that begin at tasks, one after the other
abbrev pub edges_text : Table → List Task → List ℕ
edges_text t tasks = flat_map (edges_from t) tasks

-- ---- the whole

-- the beginning: how nodes and edges look
unfoldable pub graph_opening : List ℕ
graph_opening = codes "digraph conflicts {\n  node [shape=box, style=\"rounded,filled\", fontname=\"DejaVu Sans\", fontsize=11];\n"

-- who is present, the earliest last meal first
abbrev pub present : Table → List Task
present t = map (λ d. d.task) t.order

-- the nodes, and then the edges, each in the order of last meals
unfoldable pub graph_text : List Label → Table → List ℕ
graph_text labels t = graph_opening ++ nodes_text labels t (present t) ++ edges_text t (present t) ++ codes "}\n"

-- ---- the order of last meals, as it goes on

-- what an accepted call makes of the order
abbrev pub order_after_done : Call → List Task → List Task
order_after_done (call.Leave u) order = filter (λ t. not (same_task t u)) order
order_after_done (call.Finish u) order = filter (λ t. not (same_task t u)) order ++ u ∷ []
order_after_done call.Join order = order
order_after_done (call.Conflict u v) order = order
order_after_done (call.Separate u v) order = order
order_after_done (call.Hungry u) order = order
order_after_done (call.Begin u) order = order
order_after_done (call.Withdraw u) order = order

-- what a call makes of it, by its reply
abbrev pub order_after : Call → Reply → List Task → List Task
order_after c (reply.Joined u) order = order ++ u ∷ []
order_after c reply.Done order = order_after_done c order
order_after c (reply.Refused refusal) order = order
