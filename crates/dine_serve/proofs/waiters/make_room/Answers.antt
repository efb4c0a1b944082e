use Rattle.dine_serve.proofs.Words.{◌≡◌, ◌<◌, List, [], ◌∷◌, length, refl, sym, ◌∙◌, arith, queue_at, rows_of, Await}
use Rattle.dine_serve.proofs.Rows.{put-changes, row-at, same-changes}
use Rattle.dine_serve.proofs.waiters.make_room.Goals as goal

-- a queue with no room is empty, and so is the one in its place
pub returns-in_ok-queues-clause-same : goal.returns-in_ok-queues-clause-same
returns-in_ok-queues-clause-same c =
    let items = c.args.queues.now.items in
    let slot = c.args.slot in
    let less : slot < length items = omega arith in
    let q = c.index.result.now in
    let fits = q.small.1 in
    let long = q.ok.0 in
    let none : q.items ≡ [] = empty q.items (omega (arith, fits, long)) in
    same-changes _ _ slot (put-changes items slot c.in_ok-queues.field-0 (queue_at (rows_of items) slot) less (c.in_ok-queues.ensures.items ∙ sym (row-at items slot q less c.index.ensures ∙ none)))
  where
    empty : (l : List Await) → length l ≡ 0 → l ≡ []
    empty [] h = refl
    empty (x ∷ xs) h = absurd (omega (arith, h))
