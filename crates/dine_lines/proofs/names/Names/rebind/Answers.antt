use Rattle.std.proofs.Common.{◌≡◌, Some, sym, subst, rules}
use Rattle.dine_lines.specs.Hints.{AreNoted, IsTaken}
use Rattle.dine_lines.specs.Names.{rebound, task_named}
use Rattle.dine_lines.proofs.Hints.{halves-of, noted-bound, noted-kept}
use Rattle.dine_lines.proofs.names.Names.rebind.Goals as goal

pub invariant_of-self-in-None : goal.invariant_of-self-in-None
invariant_of-self-in-None c =
    let hints = c.self.inside.hints in
    let later = c.note.new.self in
    let names = c.self.inside.tasks.entries in
    let halves = c.halves-low.result in
    let entries : c.insert.new.self.entries ≡ rebound names c.args.name c.args.task = search rules in
    let slot = halves-of c.args.name halves.0 halves.1 (search rules) (search rules) c.halves-low.ensures.letters hints.shift in
    subst (λ shift. AreNoted later.places.items shift c.insert.new.self.entries) (sym c.note.ensures.shift)
    (subst (AreNoted later.places.items hints.shift) (sym entries)
    (noted-bound later.places.items hints.shift names c.args.name c.args.task
    (noted-kept hints.places.items later.places.items hints.shift names c.note.ensures.kept c.self.invariant)
    (subst (IsTaken later.places.items) (sym slot) c.note.ensures.noted)))

pub invariant_of-self-in-Some : goal.invariant_of-self-in-Some
invariant_of-self-in-Some c =
    let hints = c.self.inside.hints in
    let names = c.self.inside.tasks.entries in
    let entries : c.insert.new.self.entries ≡ rebound names c.args.name c.args.task = search rules in
    let was : task_named names c.args.name ≡ Some c.in-Some.field-0 = search rules in
    subst (AreNoted hints.places.items hints.shift) (sym entries)
    (noted-bound hints.places.items hints.shift names c.args.name c.args.task c.self.invariant (c.self.invariant c.args.name c.in-Some.field-0 was))
