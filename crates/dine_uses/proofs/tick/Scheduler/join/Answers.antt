use Rattle.dine_uses.proofs.Scheduling.{scheduled-join}
use Rattle.dine_uses.proofs.tick.Scheduler.join.Goals as goal

pub invariant_of-self-2 : goal.invariant_of-self-2
invariant_of-self-2 c =
    let done = c.in_ok-task.ensures in
    scheduled-join c.self.inside.arbiter.table c.join.new.arbiter.table c.self.inside.running.items c.self.invariant (done.sound c.self.invariant.sound) done.accepted done.table
