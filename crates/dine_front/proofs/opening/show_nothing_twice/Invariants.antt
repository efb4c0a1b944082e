use Rattle.std.specs.Prelude.{◌≡◌, [], drop}
use Rattle.dine_front.proofs.opening.show_nothing_twice.Given as goal

-- nothing is shown yet, and nothing waits to be shown
abbrev pub invariant-loop : goal.invariant-loop
invariant-loop g l = record {
  shown : l.panel.writer.desk.shown.value ≡ [];
  pending : drop l.panel.writer.behind l.panel.writer.log.items ≡ [];
}
