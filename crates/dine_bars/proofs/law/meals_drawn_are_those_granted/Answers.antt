use Rattle.dine_bars.proofs.Drawn.{meals_counted}
use Rattle.dine_bars.proofs.law.meals_drawn_are_those_granted.Goals as goal

pub returns : goal.returns
returns c = meals_counted
