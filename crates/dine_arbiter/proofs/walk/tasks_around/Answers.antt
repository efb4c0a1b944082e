use Rattle.dine_arbiter.proofs.Lemmas.{◌≡◌, ℕ, ◌++◌, Bool, true, false, not, ◌&&◌, ◌||◌, eqb, List, filter, map, inl, inr, ap, ◌∙◌, sym, refl, arith, cases_Bool, nat_tests, beq, holds, slot_list, ForkRecord, neighbour_at, task_at, at-record, pushes, rest_of, read_on, shorter}
use Rattle.dine_arbiter.proofs.walk.tasks_around.Goals as goal

-- a record passes whose fork the slot lacks, or where all do
passes : (alone : Bool) (slot : ℕ) (r : ForkRecord) → not (alone && holds slot r) ≡ (not alone || not (beq r.fork.at_first (eqb r.first slot)))
passes alone slot r = elim (cases_Bool r.fork.at_first) [ inl e ↦ rw e (grind (arith, nat_tests)) | inr e ↦ rw e (grind (arith, nat_tests)) ]

pub visit-visit-requires : goal.visit-visit-requires
visit-visit-requires c = let (r, v) = at-record c.args.slot c.in-Some.id c.loop-next.next c.args.book.now.records c.in-Some.is c.loop-next.invariant.walk in v.listed

pub loop-next-smaller-in_ok-push : goal.loop-next-smaller-in_ok-push
loop-next-smaller-in_ok-push c = shorter _ _ _ (read_on c.args.slot c.in-Some.id c.loop-next.next c.visit-visit.result.next c.args.book.now.records c.visit-visit.result.record c.in-Some.is c.loop-next.invariant.walk c.visit-visit.ensures.visited.found c.visit-visit.ensures.next).1

pub loop-next-smaller : goal.loop-next-smaller
loop-next-smaller c = shorter _ _ _ (read_on c.args.slot c.in-Some.id c.loop-next.next c.visit-visit.result.next c.args.book.now.records c.visit-visit.result.record c.in-Some.is c.loop-next.invariant.walk c.visit-visit.ensures.visited.found c.visit-visit.ensures.next).1

pub loop-next-preserved-in_ok-push : goal.loop-next-preserved-in_ok-push
loop-next-preserved-in_ok-push c =
    let onward = read_on c.args.slot c.in-Some.id c.loop-next.next c.visit-visit.result.next c.args.book.now.records c.visit-visit.result.record c.in-Some.is c.loop-next.invariant.walk c.visit-visit.ensures.visited.found c.visit-visit.ensures.next in
    let list = slot_list c.args.slot c.args.book.now.records in
    let p : ForkRecord → Bool = λ r. not (c.args.lacked_alone && holds c.args.slot r) in
    let wanted : p c.visit-visit.result.record ≡ true = passes c.args.lacked_alone c.args.slot c.visit-visit.result.record ∙ c.if-lacked_alone-visit.true in
    record {
      walk = onward.0;
      tasks = pushes (neighbour_at c.args.seats.now c.args.slot) c.loop-next.tasks.items c.push.new.self.items (map (neighbour_at c.args.seats.now c.args.slot) (filter p list)) (filter p (rest_of c.loop-next.next list)) (filter p (rest_of c.visit-visit.result.next list)) c.visit-visit.result.record c.task_at.result (ap (filter p) onward.1 ∙ rw wanted refl) (c.task_at.ensures ∙ ap (task_at c.args.seats.now) c.visit-visit.ensures.visited.other) c.in_ok-push.ensures.items c.loop-next.invariant.tasks;
    }

pub loop-next-preserved : goal.loop-next-preserved
loop-next-preserved c =
    let onward = read_on c.args.slot c.in-Some.id c.loop-next.next c.visit-visit.result.next c.args.book.now.records c.visit-visit.result.record c.in-Some.is c.loop-next.invariant.walk c.visit-visit.ensures.visited.found c.visit-visit.ensures.next in
    let p : ForkRecord → Bool = λ r. not (c.args.lacked_alone && holds c.args.slot r) in
    let unwanted : p c.visit-visit.result.record ≡ false = passes c.args.lacked_alone c.args.slot c.visit-visit.result.record ∙ c.if-lacked_alone-visit.false in
    let left = ap (filter p) onward.1 ∙ rw unwanted refl in
    record {
      walk = onward.0;
      tasks = sym (ap (λ (rs : List ForkRecord). c.loop-next.tasks.items ++ map (neighbour_at c.args.seats.now c.args.slot) rs) left) ∙ c.loop-next.invariant.tasks;
    }
