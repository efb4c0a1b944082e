use Rattle.std.proofs.Common.{refl, true}
use Rattle.dine_forks.specs.Book.{slot_list}
use Rattle.dine_forks.specs.declared.rules.Reach.TheVariants as reach
use Rattle.dine_forks.proofs.CallerLemmas.{met-anyhow}
use Rattle.tests_forks.proofs.tests.forks.gives_up.Goals as goal

-- each fork is met
pub walk-requires-clause-meets : goal.walk-requires-clause-meets
walk-requires-clause-meets c = met-anyhow reach.Asked (λ first fork. true) c.args.slot (λ first fork. refl) (slot_list c.args.slot c.args.book.now.records)
