use Rattle.std.proofs.Common.{ap, arith}
use Rattle.dine_words.specs.declared.limits.Limits.{Limits}
use Rattle.dine_table.specs.Table.{opening_table}
use Rattle.dine_table.proofs.Clock.{limits-from}
use Rattle.dine_table.proofs.Sound.{sound_after}
use Rattle.dine_table.proofs.law.the_limits_are_kept.Goals as goal

pub returns-clause-unchanged : goal.returns-clause-unchanged
returns-clause-unchanged c limits history = limits-from (opening_table limits) history

pub returns-clause-tasks : goal.returns-clause-tasks
returns-clause-tasks c limits history =
    let few = (sound_after limits history).few_tasks in
    let same = ap (λ (l : Limits). l.tasks) (limits-from (opening_table limits) history) in
    omega (arith, few, same)

pub returns-clause-conflicts : goal.returns-clause-conflicts
returns-clause-conflicts c limits history =
    let few = (sound_after limits history).few_conflicts in
    let same = ap (λ (l : Limits). l.conflicts) (limits-from (opening_table limits) history) in
    omega (arith, few, same)
