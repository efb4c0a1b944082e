use Rattle.std.proofs.Common.{◌≡◌, ◌-◌, ◌≤◌, length, take}
use Rattle.std.specs.Io.KnownBytes.{Appends}
use Rattle.dine_streams.proofs.whole.write_whole.Given as goal

-- the bytes so far were written, and the mark is as it was
abbrev pub invariant-loop-done : goal.invariant-loop-done
invariant-loop-done g l =
    record {
      in_range : l.done ≤ length l.bytes;
      written : Appends (g.W.Sink.contents l.initial.writer) (g.W.Sink.contents l.writer) (take l.done l.bytes);
      mark : g.W.Sink.mark l.writer ≡ g.W.Sink.mark l.initial.writer;
    }

-- each write leaves fewer bytes
abbrev pub decreases-loop-done : goal.decreases-loop-done
decreases-loop-done g l = length l.bytes - l.done
