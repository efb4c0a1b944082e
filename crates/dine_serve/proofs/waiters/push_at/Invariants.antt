use Rattle.dine_serve.proofs.Words.{◌+◌, ◌-◌, length, SameQueues, rows_of}
use Rattle.dine_serve.proofs.waiters.push_at.Given as goal

-- the queues that were taken in are empty
abbrev pub invariant-loop-queues : goal.invariant-loop-queues
invariant-loop-queues l = SameQueues (rows_of l.initial.queues.items) (rows_of l.queues.items)

-- each step takes one more in
abbrev pub decreases-loop-queues : goal.decreases-loop-queues
decreases-loop-queues l = l.slot + 1 - length l.queues.items
