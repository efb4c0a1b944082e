use Rattle.std.proofs.Common.{sym, ◌∙◌}
use Rattle.dine_forks.proofs.CallerLemmas.{in_use_if_found}
use Rattle.tests_forks.proofs.tests.forks.puts.Goals as goal

pub set_fork-requires : goal.set_fork-requires
set_fork-requires c = in_use_if_found c.args.a c.args.b c.in_ok-id.id _ (sym c.find.ensures ∙ c.in_ok-id.was)
