use Rattle.dine_arbiter.proofs.Lemmas.{◌∙◌, ap, is_some, subst, IsSound, next_ready-some, table_is, search_ends}
use Rattle.dine_arbiter.proofs.arbiter.Arbiter.next_ready.Goals as goal

pub returns-clause-next : goal.returns-clause-next
returns-clause-next c = search_ends c.self.inside c.self.view_is c.self.invariant _ c.hungry_slots-hungry.ensures _ c.in_default.ensures.none _ _ c.loop-slot.invariant.earliest c.in_ok-earliest.was

pub returns-in_err-earliest-clause-next : goal.returns-in_err-earliest-clause-next
returns-in_err-earliest-clause-next c = c.from_residual.ensures ∙ search_ends c.self.inside c.self.view_is c.self.invariant _ c.hungry_slots-hungry.ensures _ c.in_default.ensures.none _ _ c.loop-slot.invariant.earliest c.in_err-earliest.was

pub returns-in_err-earliest-clause-somebody : goal.returns-in_err-earliest-clause-somebody
returns-in_err-earliest-clause-somebody c u hungry nobody =
    ap is_some (returns-in_err-earliest-clause-next c) ∙ next_ready-some c.args.self.now.table u (subst IsSound (table_is c.self.inside c.self.view_is c.self.invariant) c.self.invariant.sound) hungry nobody
