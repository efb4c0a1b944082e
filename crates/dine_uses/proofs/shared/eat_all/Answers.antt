use Rattle.std.proofs.Common.{[], ◌∷◌, ◌++◌, ◌∙◌, ap, subst}
use Rattle.std.specs.Prelude.{IfOk}
use Rattle.dine_uses.specs.Sharing.{MadeCallsMore, meals_of}
use Rattle.dine_uses.proofs.Meals.{have_eaten, put_back, taken_out}
use Rattle.dine_uses.proofs.shared.eat_all.Goals as goal

-- what each thread's closure promises of its pass
pub returns : goal.returns
returns g c =
    let p = c.in_ok-first.field-0 in
    let q = c.in_ok-second.field-0 in
    let taken = taken_out c.args.passes.items c.remove-second.new.self.items c.remove-first.new.self.items c.remove-first.result c.remove-second.result c.requires c.remove-second.ensures.value c.remove-second.ensures.by_index.2 c.remove-first.ensures.value c.remove-first.ensures.by_index.2 in
    let one : IfOk c.join-first.result.0 (MadeCallsMore c.set_the_table.new.pass (meals_of c.in_ok-task.task c.args.meals)) = c.join-first.ensures.first in
    let other : IfOk c.join-first.result.1 (MadeCallsMore c.remove-second.result (meals_of c.in_ok-task.rival c.args.meals)) = c.join-first.ensures.second in
    have_eaten c.args.meals (c.in_ok-task.task, c.in_ok-task.rival) c.remove-first.result c.remove-second.result c.set_the_table.new.pass p q c.push_reserved-2.new.self.items
    taken.first taken.second c.in_ok-task.ensures
    (subst (λ r. IfOk r (MadeCallsMore c.set_the_table.new.pass (meals_of c.in_ok-task.task c.args.meals))) c.in_ok-first.was one)
    (subst (λ r. IfOk r (MadeCallsMore c.remove-second.result (meals_of c.in_ok-task.rival c.args.meals))) c.in_ok-second.was other)
    (put_back c.remove-first.new.self.items c.push_reserved.new.self.items c.push_reserved-2.new.self.items p q taken.none (c.push_reserved.ensures.items ∙ ap (λ xs. xs ++ p ∷ []) c.in_ok-reserve.ensures.items) c.push_reserved-2.ensures.items)
