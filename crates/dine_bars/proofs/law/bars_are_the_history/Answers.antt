use Rattle.dine_bars.proofs.Drawn.{drawn_exactly}
use Rattle.dine_bars.proofs.law.bars_are_the_history.Goals as goal

pub returns : goal.returns
returns c = drawn_exactly
