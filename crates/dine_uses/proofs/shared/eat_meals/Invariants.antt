use Rattle.dine_uses.specs.Sharing.{MadeCallsMore, meals_of}
use Rattle.dine_uses.proofs.shared.eat_meals.Given as goal

-- the meals so far
abbrev pub invariant-loop-meal : goal.invariant-loop-meal
invariant-loop-meal g l = MadeCallsMore l.fn.pass (meals_of l.task l._meal) l.pass
