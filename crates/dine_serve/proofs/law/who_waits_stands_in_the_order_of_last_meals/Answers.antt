use Rattle.dine_serve.proofs.Words.{standing_at}
use Rattle.dine_serve.proofs.Ordered.{rests}
use Rattle.dine_serve.proofs.law.who_waits_stands_in_the_order_of_last_meals.Goals as goal

pub returns : goal.returns
returns c table passes lines = (rests (standing_at table passes) lines (tt, tt)).1
