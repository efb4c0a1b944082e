use Rattle.dine_serve.proofs.Words.{standing_at}
use Rattle.dine_serve.proofs.Ordered.{rests}
use Rattle.dine_serve.proofs.law.nobody_waits_whose_turn_has_come.Goals as goal

pub returns : goal.returns
returns c table passes lines = (rests (standing_at table passes) lines (tt, tt)).0
