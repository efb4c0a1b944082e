use Rattle.dine_bars.proofs.Drawn.{covered_once}
use Rattle.dine_bars.proofs.law.each_place_is_covered_once.Goals as goal

pub returns : goal.returns
returns c = covered_once
