use Rattle.std.proofs.Common.{◌≡◌, true, false, subst}
use Rattle.dine_words.specs.declared.task.Task.{Task}
use Rattle.dine_table.specs.Table.{are_in_conflict}
use Rattle.dine_uses.specs.Running.{Scheduler, runs}
use Rattle.dine_uses.proofs.Scheduling.{runners_apart}
use Rattle.dine_uses.proofs.tick.Scheduler.running.Goals as goal

-- they eat, so no two of them are in conflict
pub returns-clause-apart : goal.returns-clause-apart
returns-clause-apart c =
    subst (λ (s : Scheduler). (u v : Task) → runs s.running u ≡ true → runs s.running v ≡ true → are_in_conflict s.table u v ≡ false) c.self.view_is
    (λ u v here there. runners_apart c.self.inside.arbiter.table c.self.inside.running.items u v c.self.invariant here there)
