use Rattle.std.proofs.Common.{◌≡◌}
use Rattle.tests_forks.proofs.tests.forks.book_of.Given as goal

-- the book keeps its slots
abbrev pub invariant-loop-link : goal.invariant-loop-link
invariant-loop-link l = l.book.slots ≡ l.slots
