use Rattle.std.proofs.Common.{◌≡◌}
use Rattle.tests_growth.proofs.tests.steady.books.change.Given as goal

-- the book keeps its slots
abbrev pub invariant-loop : goal.invariant-loop
invariant-loop l = l.book.slots ≡ l.slots
