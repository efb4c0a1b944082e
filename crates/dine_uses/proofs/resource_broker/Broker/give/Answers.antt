use Rattle.std.proofs.Common.{ap, ◌∙◌}
use Rattle.dine_table.specs.Table.{state_of}
use Rattle.dine_uses.proofs.Accepting.{begun_alone, begun_eats, begun_others}
use Rattle.dine_uses.proofs.resource_broker.Broker.give.Goals as goal

pub returns-clause-given : goal.returns-clause-given
returns-clause-given c =
    let done = c.in_ok-carry_out.ensures in
    begun_eats c.self.inside.arbiter.table c.carry_out.new.arbiter.table c.self.invariant c.args.client done.accepted done.table

pub returns-clause-alone : goal.returns-clause-alone
returns-clause-alone c =
    let done = c.in_ok-carry_out.ensures in
    begun_alone c.self.inside.arbiter.table c.carry_out.new.arbiter.table c.self.invariant (done.sound c.self.invariant) c.args.client done.accepted done.table

pub returns-clause-others : goal.returns-clause-others
returns-clause-others c u other =
    let done = c.in_ok-carry_out.ensures in
    begun_others c.self.inside.arbiter.table c.carry_out.new.arbiter.table c.self.invariant c.args.client done.accepted done.table u other ∙ ap (λ x. state_of x u) c.self.view_is
