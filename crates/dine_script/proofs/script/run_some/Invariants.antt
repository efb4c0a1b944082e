use Rattle.std.proofs.Common.{◌≡◌, ◌≤◌, ◌+◌, ◌-◌, drop, length}
use Rattle.dine_lines.specs.Lines.{lines_of}
use Rattle.dine_script.specs.Printed.{TakesSome}
use Rattle.dine_script.proofs.script.run_some.Given as goal

-- the lines before the rest are carried out, and the clock and the number of faults are behind the bytes that were read
abbrev pub invariant-lines : goal.invariant-lines
invariant-lines l = record {
  takes : TakesSome l.print l.initial.run.session l.run.session (lines_of l.fn.text) (lines_of l.rest) l.initial.run.pending.items l.run.pending.items l.faults;
  left : l.rest ≡ drop (length l.fn.text - length l.rest) l.fn.text;
  short : length l.rest ≤ length l.fn.text;
  few : l.faults + length l.rest ≤ length l.fn.text;
  clock : l.run.session.table.clock + length l.rest ≤ l.initial.run.session.table.clock + length l.fn.text;
}

-- each line takes a byte of the rest
abbrev pub decreases-lines : goal.decreases-lines
decreases-lines l = length l.rest
