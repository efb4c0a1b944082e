use Rattle.dine_arbiter.proofs.Lemmas.{None, refl, ap, ◌∙◌, get_or, state_of_seat, same-state, told-set}
use Rattle.dine_arbiter.proofs.seats.Seats.seat_newcomer.Goals as goal

pub invariant_of-self : goal.invariant_of-self
invariant_of-self c =
    let slot = c.args.task.slot in
    let free = ap (λ seats. get_or seats slot None) c.self.view_is ∙ c.requires.free in
    told-set c.self.invariant slot _ _ _ _ refl (same-state c.self.invariant slot None (ap state_of_seat free)) c.self.invariant.hungry_told c.remove.ensures
