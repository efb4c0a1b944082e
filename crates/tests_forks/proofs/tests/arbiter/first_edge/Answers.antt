use Rattle.std.proofs.Common.{sym, ◌∙◌}
use Rattle.tests_forks.proofs.tests.arbiter.FirstInUse.{first_in_use}
use Rattle.tests_forks.proofs.tests.arbiter.first_edge.Goals as goal

pub ends-requires : goal.ends-requires
ends-requires c = first_in_use 0 c.in_ok-id.id c.book-book.result.now.records (sym c.first_of.ensures.first ∙ c.in_ok-id.was)

pub fork-requires : goal.fork-requires
fork-requires c = first_in_use 0 c.in_ok-id.id c.book-book.result.now.records (sym c.first_of.ensures.first ∙ c.in_ok-id.was)
