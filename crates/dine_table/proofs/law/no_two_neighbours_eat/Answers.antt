use Rattle.dine_table.specs.History.{table_after}
use Rattle.dine_table.proofs.Sound.{sound_after}
use Rattle.dine_table.proofs.Neighbours.{neighbours_rest}
use Rattle.dine_table.proofs.law.no_two_neighbours_eat.Goals as goal

pub returns : goal.returns
returns c limits history u v = neighbours_rest (table_after limits history) (sound_after limits history) u v
