use Rattle.dine_arbiter.proofs.Lemmas.{◌≡◌, IsSearch, slots_left, weight_of}
use Rattle.dine_arbiter.proofs.search.Search.next.Given as goal

-- nothing that was to be found is lost
abbrev pub invariant-loop-slot : goal.invariant-loop-slot
invariant-loop-slot l =
    record {
      kept : IsSearch l.hungry l.self;
      left : slots_left l.self l.hungry l.book ≡ slots_left l.initial.self l.hungry l.book;
    }

-- each slot that is asked about leaves less
abbrev pub decreases-loop-slot : goal.decreases-loop-slot
decreases-loop-slot l = weight_of l.self
