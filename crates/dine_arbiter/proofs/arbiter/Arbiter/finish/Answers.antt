use Rattle.dine_arbiter.proofs.Lemmas.{length, ap, ◌∙◌, arith, length-set, Count, carried-finish, left, told_finish}
use Rattle.dine_arbiter.proofs.arbiter.Arbiter.finish.Goals as goal

pub walk-requires-clause-known : goal.walk-requires-clause-known
walk-requires-clause-known c =
    let same = ap length c.seat_last.ensures ∙ length-set c.self.inside.seats c.args.task.slot _ in
    let places = c.states-by_slot.ensures.places in
    let seats = c.self.invariant.seat_for_each_slot in
    let slots = c.self.invariant.slots_of_book in
    omega arith

pub invariant_of-self : goal.invariant_of-self
invariant_of-self c = rw (c.walk.ensures, c.states-by_slot.ensures.states, c.seat_last.ensures) (left c.self.inside c.self.view_is c.self.invariant (carried-finish c.self.inside c.self.invariant c.args.task) c.requires.accepted).kept

pub returns : goal.returns
returns c =
    let messages = ap (λ (x : Count). x.asked) c.count.ensures.value ∙ told_finish c.self.inside c.self.view_is c.self.invariant c.args.task c.requires.accepted in
    rw (messages, c.walk.ensures, c.states-by_slot.ensures.states, c.seat_last.ensures) (left c.self.inside c.self.view_is c.self.invariant (carried-finish c.self.inside c.self.invariant c.args.task) c.requires.accepted).done
