use Rattle.dine_forks.proofs.Lemmas.{recounts, rules}
use Rattle.dine_forks.proofs.walk.put.Goals as goal

pub returns-clause-counts : goal.returns-clause-counts
returns-clause-counts c = rw (← c.is_first-first.ensures, ← c.other-other.ensures) (recounts c.args.counts.now c.args.at.now.slot c.other-other.result c.is_first-first.result c.args.had c.args.fork c.with.result.asked c.lacked_at.result c.lacked_at-2.result c.with-2.result (rw (← c.is_first-first.ensures, ← c.other-other.ensures) at c.requires.can) (search rules) c.lacked_at.ensures c.lacked_at-2.ensures (search rules))
