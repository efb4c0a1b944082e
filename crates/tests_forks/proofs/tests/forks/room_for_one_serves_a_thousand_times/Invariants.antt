use Rattle.std.proofs.Common.{◌≡◌}
use Rattle.dine_forks.specs.Book.{empty_book}
use Rattle.tests_forks.proofs.tests.forks.room_for_one_serves_a_thousand_times.Given as goal

-- each round leaves the book empty
abbrev pub invariant-loop : goal.invariant-loop
invariant-loop g l = l.book ≡ empty_book 2 1
