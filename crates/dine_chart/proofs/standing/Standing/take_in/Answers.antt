use Rattle.dine_chart.proofs.Present.{followed}
use Rattle.dine_chart.proofs.standing.Standing.take_in.Goals as goal

pub returns-clause-order : goal.returns-clause-order
returns-clause-order c =
    let said = c.apply-reply.ensures in
    followed c.follow.result c.args.self.now.arbiter.table c.apply-reply.new.self.table c.args.call c.apply-reply.result c.args.self.now.order.items c.follow.new.order.items c.follow.ensures said.reply said.table c.requires.order
