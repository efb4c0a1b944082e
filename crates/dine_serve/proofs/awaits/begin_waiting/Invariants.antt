use Rattle.dine_serve.proofs.Words.{◌≡◌, ◌+◌, ◌*◌, ◌≤◌, IfSome, IsNext, IsRetried, in_order, vec_capacity, vec_len}
use Rattle.dine_serve.proofs.Trying.{IsToCome}
use Rattle.dine_serve.proofs.awaits.begin_waiting.Given as goal

-- those that are due were made up to the first that is due now, which is the next at the slot of the last if there is one.
-- There is room for the lines of all that are left
abbrev pub invariant-loop-awaited : goal.invariant-loop-awaited
invariant-loop-awaited l = record {
  clock : l.arbiter.table.clock ≡ l.initial.arbiter.table.clock;
  retried : IsRetried l.arbiter.table l.call l.waiters;
  next : IfSome l.last (IsNext l.arbiter.table l.waiters.rows);
  room : vec_len l.out + 166 * l.waiters.len ≤ vec_capacity l.out;
  to_come : IsToCome l.initial.arbiter.table l.arbiter.table (in_order l.initial.arbiter.table.order l.initial.waiters.rows) (in_order l.arbiter.table.order l.waiters.rows) l.initial.receipts.items l.receipts.items l.initial.out.items l.out.items;
}

-- each step leaves one fewer who waits
abbrev pub decreases-loop-awaited : goal.decreases-loop-awaited
decreases-loop-awaited l = l.waiters.len
