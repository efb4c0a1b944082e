use Rattle.dine_arbiter.proofs.Lemmas.{◌≡◌, Some, None, ap, sym, ◌∙◌, Task, Seat, seen_by_slot, seen_seat}
use Rattle.dine_arbiter.proofs.arbiter.Arbiter.task_at.Goals as goal

-- nobody who is present sits at a free seat
pub returns-in_err-get-clause-found : goal.returns-in_err-get-clause-found
returns-in_err-get-clause-found c = λ u here there.
    let (x, at, is) = seen_by_slot c.self.inside c.self.view_is c.self.invariant c.args.slot u here there in
    absurd (let none : None ≡ Some x = sym (sym c.get.ensures ∙ c.in_err-get.was) ∙ at in cc)

pub returns-clause-seated : goal.returns-clause-seated
returns-clause-seated c = seen_seat c.self.inside c.self.view_is c.self.invariant c.args.slot c.in_ok-get.field-0 (sym c.get.ensures ∙ c.in_ok-get.was)

pub returns-clause-found : goal.returns-clause-found
returns-clause-found c = λ u here there.
    let (x, at, is) = seen_by_slot c.self.inside c.self.view_is c.self.invariant c.args.slot u here there in
    let same : Some c.in_ok-get.field-0 ≡ Some x = sym (sym c.get.ensures ∙ c.in_ok-get.was) ∙ at in
    let seat : c.in_ok-get.field-0 ≡ x = cc in
    ap (λ (s : Seat). Some s.diner.task) seat ∙ ap (λ (w : Task). Some w) is
