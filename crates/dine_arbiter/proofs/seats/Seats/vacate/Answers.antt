use Rattle.dine_arbiter.proofs.Lemmas.{None, ap, ◌∙◌, seat_state, same-state, told-set}
use Rattle.dine_arbiter.proofs.seats.Seats.vacate.Goals as goal

pub invariant_of-self : goal.invariant_of-self
invariant_of-self c =
    let thinks = ap (λ seats. seat_state seats c.args.slot) c.self.view_is ∙ c.requires.thinks in
    told-set c.self.invariant c.args.slot None _ _ _ tt (same-state c.self.invariant c.args.slot None thinks) c.self.invariant.hungry_told c.insert.ensures
