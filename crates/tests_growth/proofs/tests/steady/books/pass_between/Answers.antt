use Rattle.std.proofs.Common.{sym, ◌∙◌}
use Rattle.dine_forks.proofs.CallerLemmas.{in_use_if_found}
use Rattle.tests_growth.proofs.tests.steady.books.pass_between.Goals as goal

pub fork-fork-requires : goal.fork-fork-requires
fork-fork-requires c = in_use_if_found c.args.a c.args.b c.in-Some.id _ (sym c.find.ensures ∙ c.in-Some.is)

pub set_fork-requires : goal.set_fork-requires
set_fork-requires c = in_use_if_found c.args.a c.args.b c.in-Some.id _ (sym c.find.ensures ∙ c.in-Some.is)

pub ends-ends-requires : goal.ends-ends-requires
ends-ends-requires c = in_use_if_found c.args.a c.args.b c.in-Some.id _ (sym c.find.ensures ∙ c.in-Some.is)
