use Rattle.std.proofs.Common.{◌≡◌, length}
use Rattle.tests_growth.proofs.tests.steady.books.draw_set.Given as goal

-- the set keeps its slots
abbrev pub invariant-loop : goal.invariant-loop
invariant-loop l = length l.set ≡ 200
