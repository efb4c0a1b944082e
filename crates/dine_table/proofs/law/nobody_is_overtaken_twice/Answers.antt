use Rattle.dine_table.proofs.Overtaking.{overtaken-le}
use Rattle.dine_table.proofs.law.nobody_is_overtaken_twice.Goals as goal

pub returns : goal.returns
returns c limits history u v legal = overtaken-le limits history u v legal
