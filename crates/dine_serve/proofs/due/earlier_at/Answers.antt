use Rattle.dine_serve.proofs.Words.{◌≡◌, false, Some, IfSome, subst, sym, ap, ◌∙◌, stands_before, Await, IsDueAt, Leads}
use Rattle.dine_serve.proofs.DueBeside.{first-present, leads-earlier, leads-kept}
use Rattle.dine_serve.proofs.due.earlier_at.Goals as goal

-- the one that stands before what was found leads what that leads
pub returns-then-stands_before-clause-on : goal.returns-then-stands_before-clause-on
returns-then-stands_before-clause-on c = λ u leads.
    leads-earlier c.args.arbiter.now.table.order c.in-Some-found.other c.in-Some.awaited (sym c.stands_before.ensures ∙ c.if-stands_before.true) u
    (subst (λ o. Leads c.args.arbiter.now.table.order o u) c.in-Some-found.is leads)

-- what was found leads the first at the slot, which doesn't stand before it
pub returns-else-stands_before-clause-at : goal.returns-else-stands_before-clause-at
returns-else-stands_before-clause-at c = λ a first due.
    let t = c.args.arbiter.now.table in
    let rows = c.args.waiters.now.rows in
    let other = c.in-Some-found.other in
    let same : c.in-Some.awaited ≡ a = inner (sym c.in-Some.is ∙ c.first_at.ensures ∙ first) in
    let d : IsDueAt t rows other = subst (λ o. IfSome o (IsDueAt t rows)) c.in-Some-found.is c.requires.due in
    let off : stands_before t.order a.task other.task ≡ false = ap (λ (x : Await). stands_before t.order x.task other.task) (sym same) ∙ sym c.stands_before.ensures ∙ c.if-stands_before.false in
    leads-kept t.order other a (first-present t.order rows c.args.slot a c.requires.held first) (first-present t.order rows d.slot other c.requires.held d.first) off
  where
    inner : {x y : Await} → Some x ≡ Some y → x ≡ y
    inner h = cc
