use Rattle.std.proofs.Common.{◌≡◌, ◌+◌, None, Some, sym, ap, subst, ◌∙◌, rules, arith}
use Rattle.std.specs.Map.Iter.{deref_pair}
use Rattle.std.specs.Option.{option_map}
use Rattle.dine_lines.specs.Hints.{AreNoted, IsTaken, slot_of_name}
use Rattle.dine_lines.proofs.Hints.{AreNotedBefore, halves-of, name-at, noted-all, noted-next}
use Rattle.dine_lines.proofs.names.Names.make_more_hints.Goals as goal
use Rattle.dine_lines.proofs.names.Names.make_more_hints.Goals.{in-Some, in_default}

pub loop-place-preserved : goal.loop-place-preserved
loop-place-preserved c =
    let names = c.self.inside.tasks.entries in
    let hints = c.loop-place.hints in
    let place = c.loop-place.place in
    elim c.match-get_index.branch [
      | in-Some w ↦
          let slot = halves-of w.in-Some.name.now w.halves-low.result.0 w.halves-low.result.1 (search rules) (search rules) w.halves-low.ensures.letters hints.shift in
          rw w.hints-is
          (subst (λ s. AreNotedBefore w.note.new.self.places.items s names (place + 1)) (sym w.note.ensures.shift)
          (noted-next hints.places.items w.note.new.self.places.items hints.shift names place w.note.ensures.kept
          (λ bound at. (let same = name-at names place (w.in-Some.name.now, _) bound (ap (option_map deref_pair) (sym w.in-Some.is) ∙ c.get_index.ensures.entry) at in subst (IsTaken w.note.new.self.places.items) (sym (ap (slot_of_name hints.shift) same ∙ slot)) w.note.ensures.noted))
          c.loop-place.invariant))
      | in_default w ↦ rw w.hints-is (noted-next hints.places.items hints.places.items hints.shift names place (λ slot taken. taken) (λ bound at. let no : None ≡ Some bound = ap (option_map deref_pair) (sym w.in_default.is) ∙ c.get_index.ensures.entry ∙ at in cc) c.loop-place.invariant)
    ]

pub invariant_of-self-2 : goal.invariant_of-self-2
invariant_of-self-2 c =
    let hints = c.loop-place.hints in
    let names = c.self.inside.tasks.entries in
    subst (AreNoted hints.places.items hints.shift) (sym c.reserve.ensures.entries)
    (noted-all hints.places.items hints.shift names (λ i bound low is. c.loop-place.invariant i bound (omega (arith, low)) is))
