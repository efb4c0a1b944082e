use Rattle.std.proofs.Common.{sym, ◌∙◌}
use Rattle.dine_forks.proofs.CallerLemmas.{in_use_if_found}
use Rattle.tests_forks.proofs.tests.forks.fork_between.Goals as goal

pub fork-requires : goal.fork-requires
fork-requires c = in_use_if_found c.args.a c.args.b c.in_ok-id.id c.args.book.now.records (sym c.find.ensures ∙ c.in_ok-id.was)
