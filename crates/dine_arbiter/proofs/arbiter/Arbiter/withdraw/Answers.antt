use Rattle.dine_arbiter.proofs.Lemmas.{◌≡◌, ◌+◌, ◌*◌, ◌-◌, arith, slot_list, sum_by, withdrawal_messages_of, carried-withdraw, left, told_withdrawal}
use Rattle.dine_arbiter.proofs.arbiter.Arbiter.withdraw.Goals.{After-count-after}
use Rattle.dine_arbiter.proofs.arbiter.Arbiter.withdraw.Goals as goal

pub walk-requires-clause-known : goal.walk-requires-clause-known
walk-requires-clause-known c = let few = c.self.inside.limits.tasks_in_range in let slots = c.self.invariant.slots_of_book in omega arith

pub invariant_of-self : goal.invariant_of-self
invariant_of-self c = rw (c.walk.ensures, c.set_state.ensures) (left c.self.inside c.self.view_is c.self.invariant (carried-withdraw c.self.inside c.self.invariant c.args.task) c.requires.accepted).kept

-- the messages are those that the counts tell
reckoned : (c : After-count-after) → let slot = c.args.task.slot in
    2 * c.count-after.result.lacked + c.count-after.result.asked
    ≡ sum_by (withdrawal_messages_of slot) (slot_list slot c.self.inside.book.records) + c.count-before.result.lacked + c.count-before.result.asked
reckoned c =
    let after = rw c.walk.ensures at c.count-after.ensures.value in
    rw (c.count-before.ensures.value, after) (told_withdrawal c.self.inside c.self.view_is c.self.invariant c.args.task c.requires.accepted)

pub overflow_sub-self : goal.overflow_sub-self
overflow_sub-self c = let is = reckoned (goal.at.overflow_sub-self c).After-count-after in omega arith

pub overflow_sub-self-2 : goal.overflow_sub-self-2
overflow_sub-self-2 c = let is = reckoned (goal.at.overflow_sub-self-2 c).After-count-after in omega arith

pub returns : goal.returns
returns c =
    let slot = c.args.task.slot in let is = reckoned (goal.at.returns c).After-count-after in
    let messages : 2 * c.count-after.result.lacked + c.count-after.result.asked - c.count-before.result.lacked - c.count-before.result.asked
    ≡ sum_by (withdrawal_messages_of slot) (slot_list slot c.self.inside.book.records) = omega (arith, is) in
    rw (messages, c.walk.ensures, c.set_state.ensures) (left c.self.inside c.self.view_is c.self.invariant (carried-withdraw c.self.inside c.self.invariant c.args.task) c.requires.accepted).done
