use Rattle.std.proofs.Common.{◌≡◌, ◌+◌, ◌-◌, ◌≤◌, drop, take, vec_len}
use Rattle.std.specs.Io.KnownBytes.{Consumes}
use Rattle.dine_streams.proofs.input.read_enough.Given as goal

-- what came behind what was filled before was consumed, and is no more than the most; what was filled stays, and the mark is
-- as it was
abbrev pub invariant-loop-came : goal.invariant-loop-came
invariant-loop-came g l =
    record {
      bounded : l.came ≤ l.initial.most;
      within : l.initial.filled + l.came ≤ vec_len l.room;
      front : take l.initial.filled l.room.items ≡ take l.initial.filled l.initial.room.items;
      consumed : Consumes (g.R.Source.remaining l.initial.reader) (g.R.Source.remaining l.reader) (take l.came (drop l.initial.filled l.room.items));
      mark : g.R.Source.mark l.reader ≡ g.R.Source.mark l.initial.reader;
    }

-- each read takes from what may still come
abbrev pub decreases-loop-came : goal.decreases-loop-came
decreases-loop-came g l = l.initial.most - l.came
