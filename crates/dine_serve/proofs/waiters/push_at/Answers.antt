use Rattle.dine_serve.proofs.Words.{◌<◌, ◌++◌, ◌∷◌, [], length, sym, ap, ◌∙◌, arith, queue_at, rows_of}
use Rattle.dine_serve.proofs.Rows.{after-same, grown-same, put-changes, row-at, same-changes}
use Rattle.dine_serve.proofs.Answering.{of_error}
use Rattle.dine_serve.proofs.waiters.push_at.Goals as goal

-- one more empty queue
pub loop-queues-preserved : goal.loop-queues-preserved
loop-queues-preserved c = λ slot. ap (λ l. queue_at (rows_of l) slot) c.in_ok-push.ensures.items ∙ grown-same c.loop-queues.queues.items c.new.result c.new.ensures.items slot ∙ c.loop-queues.invariant slot

-- without memory the queues are as they were
pub returns-in_err-push-clause-kept : goal.returns-in_err-push-clause-kept
returns-in_err-push-clause-kept c = of_error _ c.from_residual.result (λ slot. ap (λ l. queue_at (rows_of l) slot) c.in_err-push.ensures.items ∙ c.loop-queues.invariant slot)

pub returns-in_err-make_room-clause-kept : goal.returns-in_err-make_room-clause-kept
returns-in_err-make_room-clause-kept c = of_error _ c.from_residual-in_err-make_room.result (λ slot. c.make_room.ensures.same slot ∙ c.loop-queues.invariant slot)

pub returns-in_err-push_back-clause-kept : goal.returns-in_err-push_back-clause-kept
returns-in_err-push_back-clause-kept c =
    let items = c.make_room.new.queues.items in
    let slot = c.args.awaited.task.slot in
    let less : slot < length items = omega arith in
    let same = put-changes items slot c.push_back.new.self (queue_at (rows_of items) slot) less (c.in_err-push_back.ensures.items ∙ sym (row-at items slot c.index_mut.result.now less c.index_mut.ensures.value)) in
    of_error _ c.from_residual-in_err-push_back.result (λ s. same-changes _ _ slot same s ∙ c.make_room.ensures.same s ∙ c.loop-queues.invariant s)

pub returns-clause-noted : goal.returns-clause-noted
returns-clause-noted c =
    let items = c.make_room.new.queues.items in
    let slot = c.args.awaited.task.slot in
    let less : slot < length items = omega arith in
    after-same _ _ _ slot _ (λ s. c.make_room.ensures.same s ∙ c.loop-queues.invariant s)
    (put-changes items slot c.push_back.new.self _ less (c.in_ok-push_back.ensures.items ∙ ap (λ l. l ++ c.args.awaited ∷ []) (sym (row-at items slot c.index_mut.result.now less c.index_mut.ensures.value) ∙ c.make_room.ensures.same slot ∙ c.loop-queues.invariant slot)))
