use Rattle.std.specs.Prelude.{◌≡◌, List, ◌++◌}
use Rattle.dine_words.specs.declared.task.Task.{Task}
use Rattle.dine_uses.specs.Running.{hungry_in}
use Rattle.dine_uses.proofs.tick.Scheduler.tick.Given as goal

-- those who ran run, and some more
abbrev pub invariant-loop-task : goal.invariant-loop-task
invariant-loop-task l = record {
  started : (started : List Task) × (l.self.running ≡ l.fn.self.running ++ started);
  conflicts : l.self.table.conflicts ≡ l.fn.self.table.conflicts;
}

-- how many are hungry
abbrev pub decreases-loop-task : goal.decreases-loop-task
decreases-loop-task l = hungry_in l.self.table
