use Rattle.std.proofs.Common.{◌≡◌, ◌+◌, not}
use Rattle.std.specs.Int.{from_bool}
use Rattle.dine_replay.specs.Bounds.{StaysWithinBound}
use Rattle.dine_replay.proofs.bound.Bound.hear_to_end.Given as goal

-- no more was read than might be, and no read failed
abbrev pub invariant-loop-self : goal.invariant-loop-self
invariant-loop-self g l =
    record {
      within : StaysWithinBound (g.R.Source.remaining l.fn.reader) (g.R.Source.remaining l.reader) l.fn.self l.self;
      mark : g.R.Source.mark l.reader ≡ g.R.Source.mark l.fn.reader;
    }

-- each read takes a byte of those that may come, or meets the end
abbrev pub decreases-loop-self : goal.decreases-loop-self
decreases-loop-self g l = l.self.allowed + from_bool (not l.self.is_at_end)
