use Rattle.std.proofs.Common.{◌≡◌, ◌+◌, ◌<◌, ◌^◌, unwrap_or, arith, ap, cond, sym, ◌∙◌, subst, Some, None}
use Rattle.std.specs.Option.{option_copied_mut}
use Rattle.std.specs.HashMap.{get}
use Rattle.dine_table.specs.Table.{same_task}
use Rattle.dine_table.proofs.CallerLemmas.{same_task-sym, same_task-true}
use Rattle.dine_race.proofs.Counted.{newly_counted}
use Rattle.dine_race.proofs.meals.Meals.add.Goals as goal

-- the count that is found is the task's, and has room for one more
pub overflow_add-count : goal.overflow_add-count
overflow_add-count c =
    let found : get same_task c.args.self.now.counts c.in-Some.task ≡ Some c.in-Some-get_mut.count.now = sym c.get_mut.ensures.value ∙ ap option_copied_mut c.in-Some-get_mut.is in
    let room = subst (λ o. unwrap_or o 0 + 1 < 2 ^ 64) found (c.requires c.in-Some.task) in
    omega (arith, room)

-- a task that was not counted gets its first meal
pub returns-in_ok-insert-in-None : goal.returns-in_ok-insert-in-None
returns-in_ok-insert-in-None c = λ t.
    let none : get same_task c.args.self.now.counts c.in-Some.task ≡ None = sym c.get_mut.ensures.value ∙ ap option_copied_mut c.in-None.is in
    let first = c.in_ok-insert-in-None.ensures.updates.0 t ∙ ap (λ m. cond (same_task c.in-Some.task t) (Some 1) (get same_task m t)) c.get_mut.follows.holds-at-none in
    newly_counted _ _ (same_task c.in-Some.task t) _ first (c.in-Some.ensures t ∙ same_task-sym t c.in-Some.task)
    (λ same. ap (get same_task c.args.self.now.counts) (sym (same_task-true c.in-Some.task t same)) ∙ none)
