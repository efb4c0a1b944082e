use Rattle.std.proofs.Common.{◌≡◌, ◌≤◌, List, ℕ, [], length}
use Rattle.std.specs.Io.KnownBytes.{Consumes}
use Rattle.dine_streams.specs.Lines.{ended_lines, kept_of}
use Rattle.dine_replay.specs.Bounds.{StaysWithinBound}
use Rattle.dine_replay.proofs.read_by_read.hear_header.Given as goal

-- all that was heard is of the first line
abbrev pub invariant-reads : goal.invariant-reads
invariant-reads g l =
    record {
      heard : List ℕ;
      consumed : Consumes (g.R.Source.remaining l.fn.reader) (g.R.Source.remaining l.reader) heard;
      one : ended_lines [] heard ≡ [];
      kept : l.buffer.begun ≡ kept_of heard;
      counted : l.counter ≤ length heard;
      within : StaysWithinBound (g.R.Source.remaining l.fn.reader) (g.R.Source.remaining l.reader) l.fn.bound l.bound;
      mark : g.R.Source.mark l.reader ≡ g.R.Source.mark l.fn.reader;
    }
