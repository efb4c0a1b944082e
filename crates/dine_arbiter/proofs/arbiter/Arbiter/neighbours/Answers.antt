use Rattle.dine_arbiter.proofs.Lemmas.{arith, common_steps, slot_list, seen_neighbours, filter-all}
use Rattle.dine_arbiter.proofs.arbiter.Arbiter.neighbours.Goals as goal

pub returns-in_ok-tasks_around-in-Some : goal.returns-in_ok-tasks_around-in-Some
returns-in_ok-tasks_around-in-Some c =
    let all = filter-all (slot_list c.args.task.slot c.self.inside.book.records) in
    let are = seen_neighbours c.self.inside c.self.view_is c.self.invariant c.args.task c.in-Some.field-0 (grind (arith, common_steps)) in
    grind (arith, common_steps)
