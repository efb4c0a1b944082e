use Rattle.std.proofs.Common.{◌≡◌, ◌∷◌, ◌++◌, [], sym, ap, subst, ◌∙◌, rules}
use Rattle.dine_lines.specs.declared.names.Slot.{Slot}
use Rattle.dine_lines.specs.Hints.{AreNoted, IsTaken, slot_number}
use Rattle.dine_lines.proofs.Hints.{halves-of, noted-kept, noted-last, taken-picked}
use Rattle.dine_lines.proofs.names.Names.bind.Goals as goal

pub invariant_of-self : goal.invariant_of-self
invariant_of-self c =
    let hints = c.self.inside.hints in
    subst (AreNoted hints.places.items hints.shift) (sym (search rules)) c.self.invariant

pub invariant_of-self-then-not-branch : goal.invariant_of-self-then-not-branch
invariant_of-self-then-not-branch c =
    let hints = c.self.inside.hints in
    subst (AreNoted hints.places.items hints.shift) (sym (search rules)) c.self.invariant

pub invariant_of-self-2 : goal.invariant_of-self-2
invariant_of-self-2 c =
    let hints = c.self.inside.hints in
    let later = c.fill.new.self in
    let names = c.self.inside.tasks.entries in
    let halves = c.halves-low.result in
    let slot = halves-of c.args.name halves.0 halves.1 (search rules) (search rules) c.halves-low.ensures.letters hints.shift in
    let taken = taken-picked (λ (s : Slot). s.number) c.slot_in-slot.result hints.places.items later.places.items (slot_number hints.shift halves.0 halves.1) c.slot_in-slot.ensures.some c.slot_in-slot.ensures.none c.fill.ensures.len c.fill.ensures.noted in
    let noted = noted-last later.places.items hints.shift names c.args.name c.args.task (noted-kept hints.places.items later.places.items hints.shift names c.fill.ensures.kept c.self.invariant) (subst (IsTaken later.places.items) (sym slot) taken) in
    let entries : c.insert_free.new.tasks.entries ≡ names ++ (c.args.name, c.args.task) ∷ [] = search rules in
    subst (λ shift. AreNoted later.places.items shift c.insert_free.new.tasks.entries) (sym c.fill.ensures.shift)
    (subst (AreNoted later.places.items hints.shift) (sym entries) noted)

pub returns-clause-bound : goal.returns-clause-bound
returns-clause-bound c told =
    let same : c.self.inside.tasks.entries ≡ c.args.self.now = c.self.view_is ∙ c.in_ok-make_hints.ensures in
    search rules ∙ ap (λ names. names ++ (c.args.name, c.args.task) ∷ []) same
