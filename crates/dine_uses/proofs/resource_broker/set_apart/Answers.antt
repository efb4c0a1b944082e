use Rattle.std.proofs.Common.{arith, ap, ◌∙◌}
use Rattle.dine_words.specs.declared.task.Task.{Task}
use Rattle.dine_uses.proofs.Requesting.{with_next}
use Rattle.dine_uses.proofs.resource_broker.set_apart.Goals as goal

-- one more is a rival
pub loop-rival-preserved : goal.loop-rival-preserved
loop-rival-preserved c =
    let so_far = c.loop-rival.invariant in
    let done = c.in_ok-carry_out.ensures in
    let nobody : Task = record { slot = 0; born = 0 } in
    record {
      rivals = with_next c.args.arbiter.now.table c.loop-rival.arbiter.table c.carry_out.new.arbiter.table c.args.client nobody c.args.rivals.now c.loop-rival.rival-index (omega arith) so_far.rivals done.table;
      clock = ap (λ t. t.clock) done.table ∙ so_far.clock;
      sound = λ sound. done.sound (so_far.sound sound);
    }
