use Rattle.dine_forks.proofs.Lemmas.{length, slot_list, own_dirtied_at, own_dirtied_fork, IsChanging, rest_of}
use Rattle.dine_forks.proofs.marks.write_dirt.Given as goal

-- the forks are dirty that the walk has behind it
abbrev pub invariant-loop-next : goal.invariant-loop-next
invariant-loop-next l = IsChanging l.slot (own_dirtied_fork l.slot) (own_dirtied_at l.slot) l.next l.lists l.initial.lists

-- what is left of the walk
abbrev pub decreases-loop-next : goal.decreases-loop-next
decreases-loop-next l = length (rest_of l.next (slot_list l.slot l.lists.records))
