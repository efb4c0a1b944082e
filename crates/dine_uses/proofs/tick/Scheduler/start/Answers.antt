use Rattle.std.proofs.Common.{◌++◌, ◌∷◌, [], ap, ◌∙◌}
use Rattle.dine_words.specs.declared.call.Call.TheVariants as call
use Rattle.dine_table.specs.Calls.{changed_by}
use Rattle.dine_uses.specs.Running.{Scheduler}
use Rattle.dine_uses.proofs.Scheduling.{fewer_hungry, scheduled-begin}
use Rattle.dine_uses.proofs.tick.Scheduler.start.Goals as goal

pub invariant_of-self-2 : goal.invariant_of-self-2
invariant_of-self-2 c =
    let done = c.in_ok-carry_out.ensures in
    scheduled-begin c.self.inside.arbiter.table c.carry_out.new.arbiter.table c.self.inside.running.items c.push_reserved.new.self.items c.args.task c.self.invariant (done.sound c.self.invariant.sound) done.accepted done.table
    (c.push_reserved.ensures.items ∙ ap (λ xs. xs ++ c.args.task ∷ []) c.in_ok-reserve.ensures.items)

pub returns-clause-fewer : goal.returns-clause-fewer
returns-clause-fewer c =
    fewer_hungry c.args.self.now.table c.carry_out.new.arbiter.table c.args.task c.requires
    (c.in_ok-carry_out.ensures.table ∙ ap (λ (s : Scheduler). changed_by s.table (call.Begin c.args.task)) c.self.view_is)
