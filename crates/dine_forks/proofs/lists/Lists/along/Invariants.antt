use Rattle.dine_forks.proofs.Lemmas.{length, slot_list, rest_of, IsSearching}
use Rattle.dine_forks.proofs.lists.Lists.along.Given as goal

-- the record that is looked for is the first between the slots in what is left of the walk, and as many were read as are
-- not left
abbrev pub invariant-loop-next : goal.invariant-loop-next
invariant-loop-next l = IsSearching l.slot l.other l.read l.next l.self.records

-- what is left of the walk
abbrev pub decreases-loop-next : goal.decreases-loop-next
decreases-loop-next l = length (rest_of l.next (slot_list l.slot l.self.records))
