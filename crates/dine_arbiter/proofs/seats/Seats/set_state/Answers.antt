use Rattle.dine_arbiter.proofs.Lemmas.{◌≡◌, get_or, rules, Some, None, ap, subst, arith, common_steps, HasSlot, is_free, same-free, told-set}
use Rattle.dine_arbiter.proofs.seats.Seats.set_state.Goals as goal

pub invariant_of-self : goal.invariant_of-self
invariant_of-self c =
    let slot = c.args.task.slot in
    let at : get_or c.self.inside.places.items slot None ≡ Some c.unwrap-seat.result.now = first_of (search rules, grind (arith, common_steps)) in
    told-set c.self.invariant slot _ _ _ _ (subst (HasSlot slot) at (c.self.invariant.slots_told slot)) c.put.ensures.states c.put.ensures.told (same-free c.self.invariant slot (Some c.unwrap-seat.result.now) (ap is_free at))
