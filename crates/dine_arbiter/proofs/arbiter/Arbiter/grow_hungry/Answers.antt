use Rattle.dine_arbiter.proofs.Lemmas.{◌≡◌, ◌+◌, ◌*◌, ◌-◌, length, ap, ◌∙◌, arith, length-set, sum_by, slot_list, seat_state, seats_put, carried-hungry, left, told_hunger, settling_cost, walk_costs}
use Rattle.dine_words.specs.declared.task.State.TheVariants.{Hungry}
use Rattle.dine_forks.specs.declared.rules.Reach.TheVariants as within
use Rattle.dine_arbiter.proofs.arbiter.Arbiter.grow_hungry.Goals.{After-count-after}
use Rattle.dine_arbiter.proofs.arbiter.Arbiter.grow_hungry.Goals as goal

pub walk-requires-clause-known : goal.walk-requires-clause-known
walk-requires-clause-known c =
    let same = ap length c.set_state.ensures ∙ length-set c.self.inside.seats c.args.task.slot _ in
    let places = c.states-by_slot.ensures.places in
    let seats = c.self.invariant.seat_for_each_slot in
    let slots = c.self.invariant.slots_of_book in
    omega arith

pub invariant_of-self : goal.invariant_of-self
invariant_of-self c = rw (c.walk.ensures, c.states-by_slot.ensures.states, c.set_state.ensures) (left c.self.inside c.self.view_is c.self.invariant (carried-hungry c.self.inside c.self.invariant c.args.task) c.requires.accepted).kept

-- the messages are those that the counts tell
reckoned : (c : After-count-after) → let slot = c.args.task.slot in
    2 * c.count-before.result.lacked + c.count-after.result.asked
    ≡ sum_by (walk_costs within.Lacked (settling_cost Hungry (seat_state (seats_put Hungry c.args.task c.self.inside.seats))) slot) (slot_list slot c.self.inside.book.records) + c.count-after.result.lacked + c.count-before.result.asked
reckoned c =
    let after = rw (c.walk.ensures, c.states-by_slot.ensures.states, c.set_state.ensures) at c.count-after.ensures.value in
    rw (c.count-before.ensures.value, after) (told_hunger c.self.inside c.self.view_is c.self.invariant c.args.task c.requires.accepted)

pub overflow_sub-self : goal.overflow_sub-self
overflow_sub-self c = let is = reckoned (goal.at.overflow_sub-self c).After-count-after in omega arith

pub overflow_sub-self-2 : goal.overflow_sub-self-2
overflow_sub-self-2 c = let is = reckoned (goal.at.overflow_sub-self-2 c).After-count-after in omega arith

pub returns : goal.returns
returns c =
    let slot = c.args.task.slot in let is = reckoned (goal.at.returns c).After-count-after in
    let messages : 2 * c.count-before.result.lacked + c.count-after.result.asked - c.count-after.result.lacked - c.count-before.result.asked
    ≡ sum_by (walk_costs within.Lacked (settling_cost Hungry (seat_state (seats_put Hungry c.args.task c.self.inside.seats))) slot) (slot_list slot c.self.inside.book.records) = omega (arith, is) in
    rw (messages, c.walk.ensures, c.states-by_slot.ensures.states, c.set_state.ensures) (left c.self.inside c.self.view_is c.self.invariant (carried-hungry c.self.inside c.self.invariant c.args.task) c.requires.accepted).done
