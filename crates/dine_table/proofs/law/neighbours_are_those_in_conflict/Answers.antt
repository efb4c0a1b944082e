use Rattle.dine_table.proofs.NeighbourList.{neighbours_differ, neighbours_exactly}
use Rattle.dine_table.proofs.law.neighbours_are_those_in_conflict.Goals as goal

pub returns-clause-members : goal.returns-clause-members
returns-clause-members c t u v = neighbours_exactly t u v

pub returns-clause-each_once : goal.returns-clause-each_once
returns-clause-each_once c t u sound = neighbours_differ t u sound
