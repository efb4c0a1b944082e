use Rattle.std.proofs.Common.{◌≡◌, ◌+◌, ◌-◌, ◌≤◌, List, ℕ, length}
use Rattle.std.specs.Io.KnownBytes.{Consumes}
use Rattle.dine_streams.proofs.without_memory.read_out.Given as goal

-- these bytes came, and the mark is as it was
abbrev pub invariant-loop-came : goal.invariant-loop-came
invariant-loop-came g l =
    record {
      bytes : List ℕ;
      consumed : Consumes (g.R.Source.remaining l.initial.reader) (g.R.Source.remaining l.reader) bytes;
      counted : length bytes ≡ l.came;
      bounded : l.came ≤ l.initial.most + 4096;
      mark : g.R.Source.mark l.reader ≡ g.R.Source.mark l.initial.reader;
    }

-- each read takes from what may still come
abbrev pub decreases-loop-came : goal.decreases-loop-came
decreases-loop-came g l = l.initial.most + 4096 - l.came
