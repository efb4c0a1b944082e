use Rattle.std.proofs.Common.{rules}
use Rattle.dine_replay.proofs.Bounds.{read_to_end}
use Rattle.dine_replay.proofs.bound.Bound.hear_to_end.Goals as goal

-- the loop ends where the end has come
pub returns-clause-end : goal.returns-clause-end
returns-clause-end g c = λ most first w.
    let within = c.loop-self.invariant.within most first w in read_to_end first (g.R.Source.remaining c.loop-self.reader) within (within.end (search rules))
