use Rattle.std.proofs.Common.{sym, subst, ◌∙◌}
use Rattle.dine_lines.specs.Hints.{AreNoted}
use Rattle.dine_lines.proofs.Hints.{same_names}
use Rattle.dine_lines.proofs.names.Names.copy.Goals as goal

pub invariant_of-result : goal.invariant_of-result
invariant_of-result c =
    let hints = c.self.inside.hints in
    let copied = c.in_ok-copy.field-0 in
    let tasks = c.in_ok-clone.field-0 in
    let same = same_names c.self.inside.tasks.entries tasks.entries c.in_ok-clone.ensures.cases in
    subst (λ places. AreNoted places copied.shift tasks.entries) (sym c.in_ok-copy.ensures.places)
    (subst (λ shift. AreNoted hints.places.items shift tasks.entries) (sym c.in_ok-copy.ensures.shift)
    (subst (AreNoted hints.places.items hints.shift) (sym same) c.self.invariant))

pub returns : goal.returns
returns c =
    same_names c.self.inside.tasks.entries c.in_ok-clone.field-0.entries c.in_ok-clone.ensures.cases ∙ c.self.view_is
