use Rattle.dine_serve.proofs.Words.{subst, ap, ◌≤◌, arith, Limits, slot_list, at-record, rest_of, read_on, shorter, LeadsAt}
use Rattle.dine_serve.proofs.DueBeside.{IsSoFar, none-beside, so_far-end, so_far-on, walk-leads}
use Rattle.dine_serve.proofs.due.earliest_beside.Goals as goal

-- a slot that the book doesn't have is at no conflict's end
pub returns-then-limits-task-clause-beside : goal.returns-then-limits-task-clause-beside
returns-then-limits-task-clause-beside c =
    let tasks = ap (λ (l : Limits). l.tasks) c.limits.ensures in
    let past : c.book-book.result.now.slots ≤ c.args.task.slot = omega (arith, tasks, c.book-book.ensures.slots, c.if-limits-task.true) in
    none-beside c.args.arbiter.now.table c.args.task c.args.waiters.now.rows c.args.found c.book-book.result.now.slots c.book-book.result.now.records c.book-book.ensures.ends c.len.ensures.sound.ends_are_slots past

pub visit-visit-requires : goal.visit-visit-requires
visit-visit-requires c = let (r, v) = at-record c.args.task.slot c.in-Some.id c.loop-next.next c.book-book.result.now.records c.in-Some.is c.loop-next.invariant.walk in v.listed

pub loop-next-smaller : goal.loop-next-smaller
loop-next-smaller c = shorter _ _ _ (read_on c.args.task.slot c.in-Some.id c.loop-next.next c.visit-visit.result.next c.book-book.result.now.records c.visit-visit.result.record c.in-Some.is c.loop-next.invariant.walk c.visit-visit.ensures.visited.found c.visit-visit.ensures.next).1

pub loop-next-preserved : goal.loop-next-preserved
loop-next-preserved c =
    let t = c.args.arbiter.now.table in
    let rows = c.args.waiters.now.rows in
    let slot = c.args.task.slot in
    let rs = c.book-book.result.now.records in
    let list = slot_list slot rs in
    let r = c.visit-visit.result.record in
    let found = c.loop-next.earliest in
    let later = c.earlier_at-earliest.result in
    let onward = read_on slot c.in-Some.id c.loop-next.next c.visit-visit.result.next rs r c.in-Some.is c.loop-next.invariant.walk c.visit-visit.ensures.visited.found c.visit-visit.ensures.next in
    record {
      walk = onward.0;
      due = c.earlier_at-earliest.ensures.due;
      on = λ u leads. c.earlier_at-earliest.ensures.on u (c.loop-next.invariant.on u leads);
      so_far = so_far-on t rows found later slot list (rest_of c.visit-visit.result.next list) r c.earlier_at-earliest.ensures.on
          (subst (LeadsAt t rows later) c.visit-visit.ensures.visited.other c.earlier_at-earliest.ensures.at)
          (subst (IsSoFar t rows found slot list) onward.1 c.loop-next.invariant.so_far);
    }

-- at the end it leads those of each neighbour
pub returns-clause-beside : goal.returns-clause-beside
returns-clause-beside c =
    let t = c.args.arbiter.now.table in
    let rows = c.args.waiters.now.rows in
    walk-leads t c.args.task rows c.loop-next.earliest _ c.book-book.ensures.ends (so_far-end t rows c.loop-next.earliest _ _ (rw c.in_default.is at c.loop-next.invariant.so_far))
