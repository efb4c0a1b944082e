use Rattle.dine_uses.proofs.Scheduling.{scheduled-hungry}
use Rattle.dine_uses.proofs.tick.Scheduler.wake.Goals as goal

pub invariant_of-self-2 : goal.invariant_of-self-2
invariant_of-self-2 c =
    let done = c.in_ok-carry_out.ensures in
    scheduled-hungry c.self.inside.arbiter.table c.carry_out.new.arbiter.table c.self.inside.running.items c.args.task c.self.invariant (done.sound c.self.invariant.sound) done.accepted done.table
