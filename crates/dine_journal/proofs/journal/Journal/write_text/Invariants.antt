use Rattle.std.proofs.Common.{◌≡◌}
use Rattle.dine_journal.proofs.Pending.{IsPending}
use Rattle.dine_journal.proofs.journal.Journal.write_text.Given as goal

-- what was written and what waits are the text of the entries so far, and the mark is as it was
abbrev pub invariant-loop-place : goal.invariant-loop-place
invariant-loop-place g l =
    record {
      pending : IsPending (g.W.Sink.contents l.initial.writer) (g.W.Sink.contents l.writer) l.lines.items l.self.limits l.self.entries l.place;
      mark : g.W.Sink.mark l.writer ≡ g.W.Sink.mark l.initial.writer;
    }
