use Rattle.dine_arbiter.proofs.Lemmas.{◌≡◌, ◌^◌, ◌<◌, ◌≤◌, IsSearch, slots_left, weight_of}
use Rattle.dine_arbiter.proofs.search.Search.next_member.Given as goal

-- nothing that was to be found is lost
abbrev pub invariant-loop-self : goal.invariant-loop-self
invariant-loop-self l =
    record {
      kept : IsSearch l.hungry l.self;
      left : slots_left l.self l.hungry l.book ≡ slots_left l.initial.self l.hungry l.book;
      fits : l.self.members < 2 ^ 64;
      less : weight_of l.self ≤ weight_of l.initial.self;
    }

-- each word leaves fewer
abbrev pub decreases-loop-self : goal.decreases-loop-self
decreases-loop-self l = l.self.words
