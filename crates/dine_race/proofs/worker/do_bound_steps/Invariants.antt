use Rattle.std.specs.Prelude.{◌≡◌, ◌+◌, ◌%◌, ◌^◌}
use Rattle.std.proofs.Common.{take}
use Rattle.dine_race.specs.Runners.{HasRun}
use Rattle.dine_race.proofs.worker.do_bound_steps.Given as goal

-- the steps so far were done and are counted, and no name was bound
abbrev pub invariant-loop-place : goal.invariant-loop-place
invariant-loop-place g l = record {
  run : HasRun l.initial.runner (take l.place l.steps.items) l.runner;
  count : l.count ≡ (l.fn.done + l.place) % 2 ^ 64;
  names : l.runner.names ≡ l.initial.runner.names;
}
