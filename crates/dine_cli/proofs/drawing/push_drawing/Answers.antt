use Rattle.dine_cli.proofs.Charts.{lawful, unlawful}
use Rattle.dine_cli.proofs.Traces.{graph_of_legal, graph_of_none}
use Rattle.dine_cli.proofs.drawing.push_drawing.Goals as goal

-- ---- a chart

pub returns-in-Ok-clause-ok : goal.returns-in-Ok-clause-ok
returns-in-Ok-clause-ok g c =
    rw c.in-Chart.is (lawful c.in-Chart.chart c.args.text.now c.args.out.now.items c.draw.new.out.items c.in-Ok.journal c.in_ok-ended-in-Ok.ended c.in-Ok.ensures.answer c.in_ok-ended-in-Ok.ensures)

pub returns-in-Chart-clause-ok : goal.returns-in-Chart-clause-ok
returns-in-Chart-clause-ok g c =
    let said = c.push_answer.ensures in
    rw c.in-Chart.is (unlawful c.in-Chart.chart c.args.text.now c.args.out.now.items c.push_answer.new.lines.items c.in-Err.fault c.push_answer.result c.in-Err.ensures.answer said.tells said.lines said.ended)

-- ---- a graph

pub push_graph-requires : goal.push_graph-requires
push_graph-requires g c = let is = c.in-Ok-check_text.ensures.answer in record { legal = (is.journal, is.text_of) }

pub returns-in-Ok-check_text-clause-ok : goal.returns-in-Ok-check_text-clause-ok
returns-in-Ok-check_text-clause-ok g c =
    rw c.in-Graph.is (graph_of_legal c.in-Graph.graph c.args.text.now c.args.out.now.items c.push_graph.new.out.items c.deref.result.now c.deref.ensures.value c.in_ok-push_graph-in-Ok-check_text.ensures.ok)

pub returns-clause-ok : goal.returns-clause-ok
returns-clause-ok g c =
    let said = c.push_answer-in-Err-check_text.ensures in
    rw c.in-Graph.is (graph_of_none c.in-Graph.graph c.args.text.now c.args.out.now.items c.push_answer-in-Err-check_text.new.lines.items c.in-Err-check_text.fault c.push_answer-in-Err-check_text.result c.in-Err-check_text.ensures.answer said.tells said.lines said.ended)
