use denote.Text.{Utf8}
use denote.Shadow.{shadow}
use Rattle.tests_program.proofs.tests.rows.worked_rows_are_answered.Given as goal

-- what a row has so far is text
abbrev pub invariant-loop-line : goal.invariant-loop-line
invariant-loop-line g l =
    (goal.iterator-loop-line g).can_next l.line-iterator ×
    (goal.iterator-loop-line g).is_finite l.line-iterator ×
    (shadow (Utf8 l.words) × (shadow (Utf8 l.name) × shadow (Utf8 l.input)))
