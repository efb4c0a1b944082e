use Rattle.dine_arbiter.proofs.Lemmas.{None, ap, ◌∙◌, get_or-map, states_by, seat_state, state_of_seat}
use Rattle.dine_arbiter.proofs.seats.Seats.states.Goals as goal

pub returns-clause-states : goal.returns-clause-states
returns-clause-states c =
    let seats = c.self.inside.places.items in
    ap states_by (c.as_slice.ensures.value ∙ c.self.invariant.states_told)
    ∙ (λ i slot. get_or-map state_of_seat seats slot None i)
    ∙ ap seat_state c.self.view_is
