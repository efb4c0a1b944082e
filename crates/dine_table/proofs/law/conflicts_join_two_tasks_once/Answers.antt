use Rattle.std.proofs.lemmas.Map.Keys.{apart_from_distinct}
use Rattle.dine_table.specs.Sound.{same_pair}
use Rattle.dine_table.proofs.Neighbours.{conflict_differs, conflict_either_way, conflict_present}
use Rattle.dine_table.proofs.law.conflicts_join_two_tasks_once.Goals as goal

pub returns-clause-ends_differ : goal.returns-clause-ends_differ
returns-clause-ends_differ c t u v sound apart = conflict_differs t sound u v apart

pub returns-clause-ends_present : goal.returns-clause-ends_present
returns-clause-ends_present c t u v sound apart = conflict_present t sound u v apart

pub returns-clause-each_pair_once : goal.returns-clause-each_pair_once
returns-clause-each_pair_once c t sound i j d before inside = apart_from_distinct same_pair t.conflicts i j d sound.each_pair_once before inside

pub returns-clause-either_way : goal.returns-clause-either_way
returns-clause-either_way c t u v = conflict_either_way u v t.conflicts
