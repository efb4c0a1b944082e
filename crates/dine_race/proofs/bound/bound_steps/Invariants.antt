use Rattle.std.specs.Prelude.{◌≡◌, map, take}
use Rattle.dine_race.specs.BoundSteps.{bound_by}
use Rattle.dine_race.proofs.bound.bound_steps.Given as goal

-- the steps so far are looked up
abbrev pub invariant-loop-step : goal.invariant-loop-step
invariant-loop-step l = l.bound.items ≡ map (bound_by l.names) (take l.step-index l.steps.items)
