use Rattle.dine_arbiter.proofs.Lemmas.{arith, common_steps, seen_blockers}
use Rattle.dine_arbiter.proofs.arbiter.Arbiter.blockers.Goals as goal

pub returns-in_ok-tasks_around-in-Some-Hungry : goal.returns-in_ok-tasks_around-in-Some-Hungry
returns-in_ok-tasks_around-in-Some-Hungry c =
    let are = seen_blockers c.self.inside c.self.view_is c.self.invariant c.args.task (grind (arith, common_steps)) in
    grind (arith, common_steps)
