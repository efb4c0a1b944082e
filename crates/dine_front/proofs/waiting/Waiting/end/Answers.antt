use Rattle.std.proofs.Common.{sym, ◌∙◌}
use Rattle.dine_journal.specs.Kept.{table_now}
use Rattle.dine_front.proofs.Waited.{nobody_left}
use Rattle.dine_front.proofs.waiting.Waiting.end.Goals as goal

-- nobody waits, so nobody's wait ends
pub returns-then-not-self-clause-left : goal.returns-then-not-self-clause-left
returns-then-not-self-clause-left c =
    rw (← c.self.view_is) (nobody_left (table_now c.args.hall.now) c.self.inside.tasks (sym c.self.invariant.1 ∙ c.if-not-self.true))
