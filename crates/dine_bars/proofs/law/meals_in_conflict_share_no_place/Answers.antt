use Rattle.dine_bars.proofs.Drawn.{meals_apart}
use Rattle.dine_bars.proofs.law.meals_in_conflict_share_no_place.Goals as goal

pub returns : goal.returns
returns c = meals_apart
