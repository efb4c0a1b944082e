use Rattle.dine_arbiter.proofs.Lemmas.{◌++◌, ℕ, Bool, List, map, sym, ap, ◌∙◌, append-nil, rules, IsNonDecreasingBy-from_sort_by_key, ready_slots, Task, stamp_at, task_at, all_ready}
use Rattle.dine_arbiter.proofs.arbiter.Arbiter.ready.Goals as goal

pub returns : goal.returns
returns c =
    let seats = c.self.inside.seats in
    let none = ap (λ (slots : List ℕ). c.loop-slot.tasks.items ++ map (task_at seats) slots) c.in_default.ensures.none in
    let found = sym (append-nil c.loop-slot.tasks.items) ∙ sym none ∙ c.loop-slot.invariant.tasks ∙ ap (λ (hungry : List Bool). map (task_at seats) (ready_slots hungry c.self.inside.book)) c.hungry_slots-hungry.ensures in
    let ordered = IsNonDecreasingBy-from_sort_by_key (λ (task : Task). stamp_at seats task.slot) _ c.sort_unstable_by_key.ensures.sorted (λ a r q k. search rules) in
    all_ready c.self.inside c.self.view_is c.self.invariant c.loop-slot.tasks.items _ found c.sort_unstable_by_key.ensures.permutation ordered
