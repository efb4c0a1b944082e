use Rattle.dine_table.specs.Sound.{IsSound}
use Rattle.dine_words.specs.declared.call.Call.TheVariants as call
use Rattle.dine_table.proofs.CallerLemmas.{sound_after_call}
use Rattle.std.proofs.Common.{ap, subst, sym, ◌∙◌}
use Rattle.dine_table.specs.Table.{state_of}
use Rattle.dine_uses.proofs.Accepting.{left_itself, left_others}
use Rattle.dine_uses.proofs.resource_broker.Broker.take_back.Goals as goal

pub returns-clause-gone : goal.returns-clause-gone
returns-clause-gone c =
    let done = c.in_ok-carry_out.ensures in
    left_itself c.self.inside.arbiter.table c.carry_out.new.arbiter.table c.apply.new.self.table c.self.invariant c.args.client done.accepted done.table c.apply.ensures.table

pub returns-clause-others : goal.returns-clause-others
returns-clause-others c u other =
    let done = c.in_ok-carry_out.ensures in
    left_others c.self.inside.arbiter.table c.carry_out.new.arbiter.table c.apply.new.self.table c.self.invariant c.args.client done.accepted done.table c.apply.ensures.table u other ∙ ap (λ x. state_of x u) c.self.view_is

pub invariant_of-self-2 : goal.invariant_of-self-2
invariant_of-self-2 c =
    subst IsSound (sym c.apply.ensures.table) (sound_after_call c.carry_out.new.arbiter.table (call.Leave c.args.client) (c.in_ok-carry_out.ensures.sound c.self.invariant))
