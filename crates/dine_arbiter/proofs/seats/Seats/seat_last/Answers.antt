use Rattle.dine_arbiter.proofs.Lemmas.{◌≡◌, get_or, rules, Some, None, sym, ap, ◌∙◌, set, subst, arith, common_steps, HasSlot, Seat, Task, Thinking, is_free, seat_is, same-free, told-set}
use Rattle.dine_arbiter.proofs.seats.Seats.seat_last.Goals as goal

pub invariant_of-self : goal.invariant_of-self
invariant_of-self c =
    let slot = c.args.task.slot in
    let at : get_or c.self.inside.places.items slot None ≡ Some c.unwrap-seat.result.now = first_of (search rules, grind (arith, common_steps)) in
    told-set c.self.invariant slot _ _ _ _ (subst (HasSlot slot) at (c.self.invariant.slots_told slot)) c.put.ensures.states c.put.ensures.told (same-free c.self.invariant slot (Some c.unwrap-seat.result.now) (ap is_free at))

pub returns : goal.returns
returns c =
    let seat = c.unwrap-seat.result.now in
    let places = c.self.inside.places.items in
    let slot = c.args.task.slot in
    let at : get_or places slot None ≡ Some seat = first_of (search rules, grind (arith, common_steps)) in
    let same : seat.diner.task ≡ c.args.task = seat_is c.args.task seat (rw (sym (ap (λ seats. get_or seats slot None) c.self.view_is) ∙ at) at c.requires) in
    let seated : (task : Task) → Seat = λ task. record { diner = record { task = task; state = Thinking }; stamp = c.args.stamp } in
    ap (λ task. set places slot (Some (seated task))) same ∙ ap (λ seats. set seats slot (Some (seated c.args.task))) c.self.view_is
