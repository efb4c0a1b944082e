use Rattle.dine_arbiter.proofs.Lemmas.{◌≡◌, None, length, IsSearch, ready_slots, slots_left, earliest_of}
use Rattle.dine_arbiter.proofs.arbiter.Arbiter.next_ready.Given as goal

-- the earliest so far, and of the slots still to be found, is the earliest of all
abbrev pub invariant-loop-slot : goal.invariant-loop-slot
invariant-loop-slot l =
    record {
      kept : IsSearch l.hungry l.search;
      earliest : earliest_of l.seats l.earliest (slots_left l.search l.hungry l.book) ≡ earliest_of l.seats None (ready_slots l.hungry l.book);
    }

-- what is left of the search
abbrev pub decreases-loop-slot : goal.decreases-loop-slot
decreases-loop-slot l = length (slots_left l.search l.hungry l.book)
