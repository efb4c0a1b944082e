use Rattle.dine_uses.proofs.Scheduling.{scheduled-conflict}
use Rattle.dine_uses.proofs.tick.Scheduler.keep_apart.Goals as goal

pub invariant_of-self-2 : goal.invariant_of-self-2
invariant_of-self-2 c =
    let done = c.in_ok-carry_out.ensures in
    scheduled-conflict c.self.inside.arbiter.table c.carry_out.new.arbiter.table c.self.inside.running.items c.args.first c.args.second c.self.invariant (done.sound c.self.invariant.sound) done.table
