use Rattle.std.proofs.Common.{◌≡◌, ◌≤◌}
use Rattle.dine_script.specs.Printed.{IsFrontRun}
use Rattle.dine_script.proofs.FrontRuns.{left_to_read}
use Rattle.dine_script.proofs.script.run_front.Given as goal

-- the lines of what was heard are carried out, up to what is left of it, and the mark is as it was
abbrev pub invariant-reads : goal.invariant-reads
invariant-reads g l = record {
  ran : IsFrontRun l.print l.initial.run.session l.run.session (g.R.Source.remaining l.initial.reader) (g.R.Source.remaining l.reader) l.input l.initial.run.pending.items l.run.pending.items l.faults;
  most : l.input.heard ≤ 16777216;
  clock : l.initial.run.session.table.clock ≡ 0;
  mark : g.R.Source.mark l.reader ≡ g.R.Source.mark l.initial.reader;
}

-- each read hears a byte more, or the end
abbrev pub decreases-reads : goal.decreases-reads
decreases-reads g l = left_to_read l.input
