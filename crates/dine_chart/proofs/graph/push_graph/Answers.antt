use Rattle.dine_chart.proofs.Standings.{graphed}
use Rattle.dine_chart.proofs.graph.push_graph.Goals as goal

pub returns-clause-ok : goal.returns-clause-ok
returns-clause-ok c =
    graphed c.push_table.result c.args.text.now c.args.labels.now c.args.place c.in_ok-standing.standing.arbiter.table c.args.out.now.items c.push_table.new.out.items c.push_table.ensures.ok c.in_ok-standing.ensures.at
