use Rattle.std.specs.Prelude.{◌≡◌, ◌+◌, ◌%◌, ◌^◌}
use Rattle.std.proofs.Common.{take}
use Rattle.dine_race.specs.Runners.{HasRun}
use Rattle.dine_race.proofs.worker.do_named_steps.Given as goal

-- the steps so far were done, and are counted
abbrev pub invariant-loop-step : goal.invariant-loop-step
invariant-loop-step g l = record {
  run : HasRun l.initial.runner (take l.step-index l.steps) l.runner;
  count : l.count ≡ (l.fn.done + l.step-index) % 2 ^ 64;
}
