use Rattle.dine_serve.proofs.Words.{◌≡◌, ◌++◌, Some, refl, sym, ap, subst, ◌∙◌, append-nil, arith, map, entry_text, text_of_lines, Table, IsNext, IsRetried, first_due, in_order, AllWait}
use Rattle.dine_serve.proofs.FirstDue.{Splits, none-due, splits}
use Rattle.dine_serve.proofs.Retrying.{kept-all, left-order, next-there, one-more, retried-on, waits-front}
use Rattle.dine_serve.proofs.Staying.{Rests, all-rest}
use Rattle.dine_serve.proofs.Trying.{IsToCome, comes-on}
use Rattle.dine_serve.proofs.awaits.begin_waiting.Goals as goal
use Rattle.dine_serve.proofs.awaits.begin_waiting.Goals.{In_default}

pub loop-awaited-init : goal.loop-awaited-init
loop-awaited-init c = record {
  clock = refl;
  retried = c.requires.retried;
  next = tt;
  room = c.requires.room;
  to_come = record { table = refl; left = refl; kept = refl; said = refl };
}

-- one waits, so there is room for a line
pub begin-requires-clause-room : goal.begin-requires-clause-room
begin-requires-clause-room c =
    let t = c.loop-awaited.arbiter.table in
    let w = c.loop-awaited.waiters in
    let first : first_due t (in_order t.order w.rows) ≡ Some c.in-Some.awaited = sym c.first_due.ensures ∙ c.in-Some.is in
    let one = one-more t w c.args.call c.loop-awaited.invariant.retried c.in-Some.awaited (splits t (in_order t.order w.rows) c.in-Some.awaited first) in
    let room = c.loop-awaited.invariant.room in
    omega (arith, one, room)

-- the one that is due begins, and is taken out
pub loop-awaited-preserved : goal.loop-awaited-preserved
loop-awaited-preserved c =
    let t = c.loop-awaited.arbiter.table in
    let w = c.loop-awaited.waiters in
    let w' = c.take_first.new.self in
    let r = c.loop-awaited.invariant.retried in
    let a = c.in-Some.awaited in
    let first : first_due t (in_order t.order w.rows) ≡ Some a = sym c.first_due.ensures ∙ c.in-Some.is in
    let s : Splits t (in_order t.order w.rows) a = splits t (in_order t.order w.rows) a first in
    let taken = c.take_first.ensures.taken in
    let fewer = c.take_first.ensures.len in
    let made = c.begin.ensures.table in
    let said = c.begin.ensures.said in
    let left = ap (λ (x : Table). in_order x.order w'.rows) made ∙ left-order t w c.args.call r a first w' taken fewer in
    record {
      clock = c.begin.ensures.clock ∙ c.loop-awaited.invariant.clock;
      retried = subst (λ x. IsRetried x c.args.call w') (sym made) (retried-on t w c.args.call r a first w' taken fewer);
      next = subst (λ x. IsNext x w'.rows a.task.slot) (sym made) (next-there t w c.args.call r a first w' taken fewer);
      room =
          let one = one-more t w c.args.call r a s in
          let room = c.loop-awaited.invariant.room in
          let len = said.len in
          let capacity = said.capacity in
          omega (arith, one, room, fewer, len, capacity);
      to_come = subst (λ l. IsToCome c.args.arbiter.now.table c.begin.new.arbiter.table (in_order c.args.arbiter.now.table.order c.args.waiters.now.rows) l c.args.receipts.now.items c.begin.new.receipts.items c.args.out.now.items c.begin.new.out.items) (sym left)
          (comes-on _ t _ _ (in_order t.order w.rows) _ _ _ _ _ _ c.loop-awaited.invariant.to_come a s (subst (λ x. AllWait x s.front) (sym made) (waits-front t w c.args.call r a first w' taken fewer)) made c.begin.ensures.receipts said.is);
    }

-- where none is due, all have to wait
wait : (c : In_default) → AllWait c.loop-awaited.arbiter.table (in_order c.loop-awaited.arbiter.table.order c.loop-awaited.waiters.rows)
wait c = none-due c.loop-awaited.arbiter.table (in_order c.loop-awaited.arbiter.table.order c.loop-awaited.waiters.rows) (sym c.first_due.ensures ∙ c.in_default.is)

-- so nothing comes of them
rest : (c : In_default) → Rests c.loop-awaited.arbiter.table (in_order c.loop-awaited.arbiter.table.order c.loop-awaited.waiters.rows) c.loop-awaited.receipts.items
rest c = all-rest c.loop-awaited.arbiter.table (in_order c.loop-awaited.arbiter.table.order c.loop-awaited.waiters.rows) c.loop-awaited.receipts.items (wait c)

pub returns-clause-table : goal.returns-clause-table
returns-clause-table c = sym (rest c).table ∙ c.loop-awaited.invariant.to_come.table

pub returns-clause-left : goal.returns-clause-left
returns-clause-left c = sym (rest c).left ∙ c.loop-awaited.invariant.to_come.left

pub returns-clause-receipts : goal.returns-clause-receipts
returns-clause-receipts c = sym (rest c).kept ∙ c.loop-awaited.invariant.to_come.kept

pub returns-clause-said : goal.returns-clause-said
returns-clause-said c = sym (append-nil c.loop-awaited.out.items) ∙ ap (λ es. c.loop-awaited.out.items ++ text_of_lines (map entry_text es)) (sym (rest c).none) ∙ c.loop-awaited.invariant.to_come.said

pub returns-clause-kept : goal.returns-clause-kept
returns-clause-kept c = kept-all c.loop-awaited.arbiter.table c.args.call c.loop-awaited.waiters c.loop-awaited.invariant.retried (wait c)
