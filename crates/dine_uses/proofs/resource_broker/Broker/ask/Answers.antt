use Rattle.std.proofs.Common.{subst, sym}
use Rattle.dine_table.specs.Sound.{IsSound}
use Rattle.dine_table.specs.Table.{Table}
use Rattle.dine_words.specs.declared.call.Call.TheVariants as call
use Rattle.dine_table.proofs.CallerLemmas.{sound_after_call}
use Rattle.dine_uses.specs.Requests.{HasRequested, IsAsBefore}
use Rattle.dine_uses.proofs.Requesting.{has_asked, is_undone}
use Rattle.dine_uses.proofs.resource_broker.Broker.ask.Goals as goal

pub invariant_of-self-in-Ok : goal.invariant_of-self-in-Ok
invariant_of-self-in-Ok c =
    let joined = c.in_ok-newcomer.ensures.sound c.self.invariant in
    subst IsSound (sym c.apply.ensures.table) (sound_after_call _ (call.Hungry c.in_ok-newcomer.newcomer) (c.set_apart-apart.ensures.sound joined))

pub invariant_of-self-in-Err : goal.invariant_of-self-in-Err
invariant_of-self-in-Err c =
    let joined = c.in_ok-newcomer.ensures.sound c.self.invariant in
    subst IsSound (sym c.apply-in-Err.ensures.table) (sound_after_call _ (call.Leave c.in_ok-newcomer.newcomer) (c.set_apart-apart.ensures.sound joined))

-- the newcomer is hungry, and in conflict with its rivals
pub returns-in-Ok-clause-asked : goal.returns-in-Ok-clause-asked
returns-in-Ok-clause-asked c =
    let came = c.in_ok-newcomer.ensures in
    subst (λ (t : Table). HasRequested t c.apply.new.self.table c.in_ok-newcomer.newcomer c.args.rivals.now) c.self.view_is
    (has_asked c.self.inside.arbiter.table _ _ _ c.in_ok-newcomer.newcomer c.args.rivals.now c.self.invariant came.task came.table c.in-Ok.ensures.ok c.apply.ensures.table)

-- the newcomer is gone, and its conflicts with it
pub returns-in-Err-clause-undone : goal.returns-in-Err-clause-undone
returns-in-Err-clause-undone c =
    let came = c.in_ok-newcomer.ensures in
    subst (λ (t : Table). IsAsBefore t c.apply-in-Err.new.self.table) c.self.view_is
    (is_undone c.self.inside.arbiter.table _ _ _ c.in_ok-newcomer.newcomer _ c.self.invariant came.task came.table c.in-Err.ensures.err.1 c.apply-in-Err.ensures.table)
