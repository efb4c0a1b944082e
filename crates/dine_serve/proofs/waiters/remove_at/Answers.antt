use Rattle.dine_serve.proofs.Words.{◌≡◌, ◌<◌, ◌++◌, ◌+◌, suc, List, take, drop, length, Option, Some, None, IsSome, OnSome, false, true, sym, ap, subst, ◌∙◌, arith, Await, queue_at, rows_of, taken_back}
use Rattle.dine_serve.proofs.Rows.{put-changes, row-at}
use Rattle.dine_serve.proofs.waiters.remove_at.Goals as goal

-- what holds where there is a value, where there is one
of_some : (o : Option Await) (P : Type 0) → OnSome o P → IsSome o → P
of_some None P holds is = absurd (let two : false ≡ true = is in cc)
of_some (Some a) P holds is = holds

-- the one that was found is taken out
pub returns-clause-left : goal.returns-clause-left
returns-clause-left c =
    let items = c.args.queues.now.items in
    let slot = c.args.task.slot in
    let place = c.in-Some.place in
    let less : slot < length items = omega arith in
    let read = row-at items slot c.index.result.now less c.index.ensures in
    let again : queue_at (rows_of items) slot ≡ c.index_mut.result.now.items = row-at items slot c.index_mut.result.now less c.index_mut.ensures.value in
    let near : place < length c.index_mut.result.now.items = subst (λ (l : List Await). place < length l) (sym read ∙ again) c.in-Some.ensures.bound in
    let one : suc place ≡ place + 1 = omega arith in
    let removed = of_some c.remove.result _ c.remove.ensures.items (c.remove.ensures.variant.1 (let fits = c.index_mut.result.now.ok.0 in omega (arith, fits, near))) in
    put-changes items slot c.remove.new.self _ less
    (removed
    ∙ ap (λ (l : List Await). take place l ++ drop (suc place) l) (sym again ∙ read)
    ∙ ap (λ n. take place c.index.result.now.items ++ drop n c.index.result.now.items) one
    ∙ sym c.in-Some.ensures.left
    ∙ ap (taken_back c.args.pass c.args.task) (sym read))
