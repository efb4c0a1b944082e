use Rattle.std.proofs.Common.{◌≡◌, ◌≤◌, ◌+◌, ◌++◌, ℕ, List, length}
use Rattle.dine_lines.specs.Lines.{lines_of}
use Rattle.dine_script.specs.Printed.{printed_from}
use Rattle.dine_script.specs.Script.{faults_from}
use Rattle.dine_streams.proofs.CallerLemmas.{Progress}
use Rattle.dine_words.specs.Texts.{text_of_lines}
use Rattle.dine_script.proofs.script.run_rest.Given as goal

-- the clock and the number of faults are behind the bytes that were read, and what is printed of the lines so far is written or
-- pending, behind whatever lines were pending at first
abbrev pub invariant-lines : goal.invariant-lines
invariant-lines g l = record {
  clock : l.run.session.table.clock + length l.rest ≤ l.initial.run.session.table.clock + length l.fn.text;
  faults : l.faults + faults_from l.run.session (lines_of l.rest) ≡ faults_from l.initial.run.session (lines_of l.fn.text);
  few : l.faults + length l.rest ≤ length l.fn.text;
  progress : (front : List (List ℕ)) → l.fn.run.pending.items ≡ text_of_lines front → Progress (front ++ printed_from l.print l.initial.run.session (lines_of l.fn.text)) (g.W.Sink.contents l.fn.writer) (g.W.Sink.contents l.writer) l.run.pending.items (printed_from l.print l.run.session (lines_of l.rest));
  unmarked : g.W.Sink.mark l.writer ≡ g.W.Sink.mark l.fn.writer;
}

-- at least one line is carried out each time
abbrev pub decreases-lines : goal.decreases-lines
decreases-lines g l = length l.rest
