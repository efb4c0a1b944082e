use Rattle.std.specs.Prelude.{◌≡◌, ◌++◌}
use Rattle.dine_race.specs.Works.{AreDone}
use Rattle.dine_race.proofs.threads.end_all.Given as goal

-- the first works are done, and the others are left
abbrev pub invariant-loop-at_work : goal.invariant-loop-at_work
invariant-loop-at_work g l = record {
  done : AreDone l.yielded l.passes.items;
  left : l.fn.all.items ≡ l.yielded ++ l.at_work-iterator.rest.items;
}
