use mathlib.Core.List.{IsPrefix}
use Rattle.dine_front.proofs.OneHistory.{AllBegin}
use Rattle.dine_front.proofs.closing.are_of_one_history.Given as goal

-- the history and what the passes so far have seen begin the list
abbrev pub invariant-loop-pass : goal.invariant-loop-pass
invariant-loop-pass g l = record {
  begins : IsPrefix l.history l.whole;
  each : AllBegin l.pass-index l.passes l.whole;
}
