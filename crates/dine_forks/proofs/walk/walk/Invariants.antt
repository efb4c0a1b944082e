use Rattle.dine_forks.proofs.Lemmas.{◌≡◌, ◌≤◌, IfSome, false, is_marked, true, list_all, is_met_at, length, sum_by, IsTiedBut, times_walked, seen_book, slot_list, owed_at, owed_fork, seen_all, IsChanging, rest_of}
use Rattle.dine_forks.proofs.walk.walk.Given as goal

-- the rules have run that the walk has behind it, and it has to do with what is left
abbrev pub invariant-loop-next : goal.invariant-loop-next
invariant-loop-next g l =
    let reach = g.R.Rules.reach l.rules in let forks = g.R.Rules.forks l.rules in
    let rest = rest_of l.next (slot_list l.slot (seen_all l.marks l.lists.records)) in
    record {
      changing : IsChanging l.slot (owed_fork l.owes reach forks l.slot) (owed_at l.owes reach forks l.slot) l.next (seen_book l.marks l.lists) (seen_book l.initial.marks l.initial.lists);
      tied : IsTiedBut l.slot l.lists l.counts l.marks l.lacking;
      own : l.unmarked ≡ true → is_marked l.marks l.slot ≡ false;
      met : list_all (is_met_at reach (g.R.Rules.meets l.rules) l.slot) rest ≡ true;
      left : sum_by (times_walked l.owes reach l.slot) rest ≡ l.left;
      some : IfSome l.next (λ _. 1 ≤ l.left);
    }

-- what is left of the walk
abbrev pub decreases-loop-next : goal.decreases-loop-next
decreases-loop-next g l = length (rest_of l.next (slot_list l.slot (seen_all l.marks l.lists.records)))
