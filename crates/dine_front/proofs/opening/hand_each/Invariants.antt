use Rattle.std.specs.Prelude.{◌≡◌, ◌+◌}
use Rattle.dine_front.specs.Passes.{AreNew}
use Rattle.dine_front.proofs.opening.hand_each.Given as goal

-- each pass so far has its part of the ledger and is new
abbrev pub invariant-loop-number : goal.invariant-loop-number
invariant-loop-number g l =
    record {
      parts : l.rest.parts + l.number ≡ l.initial.rest.parts;
      amount : l.rest.amount ≡ 0;
      new : AreNew l.number l.handed.items;
    }
