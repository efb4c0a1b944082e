use Rattle.dine_arbiter.proofs.Lemmas.{◌≡◌, true, false, is_none, sym, ap, ◌∙◌, subst, arith, refl, rules, list_any, common_steps, nil_from_length, present, state_of, slot_list, AreWords, at-record, has_hungry_neighbour, is_hungry_beside, calm_beside, seen_hungry, read_on, shorter}
use Rattle.dine_arbiter.proofs.Seen.{seen}
use Rattle.dine_arbiter.proofs.arbiter.Arbiter.has_hungry_neighbour.Goals.{After-state, then-is_none-via-then-is_none, then-is_none-via-else-is_none+then-len-eq0, then-is_none-via-else-is_none+else-len-eq0+then-word_marks-eq0}
use Rattle.dine_arbiter.proofs.arbiter.Arbiter.has_hungry_neighbour.Goals as goal

-- some record's other end is hungry exactly where a neighbour is
beside : (c : After-state) → is_none c.state.result ≡ false → list_any (is_hungry_beside c.self.inside.seats c.args.task.slot) (slot_list c.args.task.slot c.self.inside.book.records) ≡ has_hungry_neighbour c.args.self.now.table c.args.task
beside c known =
    let (x, here) = present (state_of c.args.self.now.table c.args.task) (sym (ap is_none c.state.ensures) ∙ known) in
    seen_hungry c.self.inside c.self.view_is c.self.invariant c.args.task x here

pub returns-then-is_none : goal.returns-then-is_none
returns-then-is_none c = elim c.then-is_none.branch [
  | then-is_none-via-then-is_none w ↦ grind (arith, seen)
  | then-is_none-via-else-is_none+then-len-eq0 w ↦ grind (arith, nil_from_length, seen)
  | then-is_none-via-else-is_none+else-len-eq0+then-word_marks-eq0 w ↦
      let few = c.self.inside.limits.tasks_in_range in let places = c.self.invariant.seat_for_each_slot in
      sym (calm_beside c.self.inside.seats w.word_marks.result c.args.task.slot _ (omega arith) (subst (λ s. AreWords s w.word_marks.result) w.hungry_slots.ensures w.word_marks.ensures) w.if-word_marks-eq0.true)
      ∙ beside (goal.at.returns-then-is_none c).After-state (grind (arith, common_steps))
]

pub visit-visit-requires : goal.visit-visit-requires
visit-visit-requires c = let (r, v) = at-record c.args.task.slot c.in-Some.id c.loop-next.next c.self.inside.book.records c.in-Some.is c.loop-next.invariant.walk in v.listed

pub returns-then-eq : goal.returns-then-eq
returns-then-eq c =
    let onward = read_on c.args.task.slot c.in-Some.id c.loop-next.next c.visit-visit.result.next c.self.inside.book.records c.visit-visit.result.record c.in-Some.is c.loop-next.invariant.walk c.visit-visit.ensures.visited.found c.visit-visit.ensures.next in
    let holds : is_hungry_beside c.self.inside.seats c.args.task.slot c.visit-visit.result.record ≡ true = first_of (search rules, grind (arith, common_steps)) in
    sym (sym (beside (goal.at.returns-then-eq c).After-state (grind (arith, common_steps))) ∙ sym c.loop-next.invariant.hungry ∙ ap (list_any (is_hungry_beside c.self.inside.seats c.args.task.slot)) onward.1 ∙ rw holds refl)

pub loop-next-smaller : goal.loop-next-smaller
loop-next-smaller c = shorter _ _ _ (read_on c.args.task.slot c.in-Some.id c.loop-next.next c.visit-visit.result.next c.self.inside.book.records c.visit-visit.result.record c.in-Some.is c.loop-next.invariant.walk c.visit-visit.ensures.visited.found c.visit-visit.ensures.next).1

pub loop-next-preserved : goal.loop-next-preserved
loop-next-preserved c =
    let onward = read_on c.args.task.slot c.in-Some.id c.loop-next.next c.visit-visit.result.next c.self.inside.book.records c.visit-visit.result.record c.in-Some.is c.loop-next.invariant.walk c.visit-visit.ensures.visited.found c.visit-visit.ensures.next in
    let lacks : is_hungry_beside c.self.inside.seats c.args.task.slot c.visit-visit.result.record ≡ false = first_of (search rules, grind (arith, common_steps)) in
    record {
      walk = onward.0;
      hungry = sym (sym c.loop-next.invariant.hungry ∙ ap (list_any (is_hungry_beside c.self.inside.seats c.args.task.slot)) onward.1 ∙ rw lacks refl);
    }
