use Rattle.dine_lines.proofs.Hints.{AreNotedBefore}
use Rattle.dine_lines.proofs.names.Names.make_more_hints.Given as goal

-- the names before the place are noted
abbrev pub invariant-loop-place : goal.invariant-loop-place
invariant-loop-place l =
    AreNotedBefore l.hints.places.items l.hints.shift l.self-inside.tasks.entries l.place
