use Rattle.std.proofs.Common.{◌≡◌, ◌-◌, length}
use Rattle.dine_table.specs.Calls.{free_slot_from}
use Rattle.dine_journal.proofs.plain.order.free_slot.Given as goal

-- each smaller slot is used, so what is looked for from here on is what is looked for at all
abbrev pub invariant-loop : goal.invariant-loop
invariant-loop l =
    record {
      counted : l.slot ≡ l.counter;
      rest : free_slot_from (length l.order - l.counter) l.slot l.order ≡ free_slot_from (length l.order) 0 l.order;
    }
