use Rattle.std.specs.Prelude.{◌≡◌, ◌+◌, ◌≤◌, length}
use Rattle.dine_front.specs.Mine.{sum_of_shares}
use Rattle.dine_front.proofs.closing.gather.Given as goal

-- the shares of the passes so far are in the rest
abbrev pub invariant-loop-pass : goal.invariant-loop-pass
invariant-loop-pass g l =
    record {
      parts : l.rest.parts ≡ l.initial.rest.parts + length l.yielded;
      amount : l.rest.amount ≡ l.initial.rest.amount + sum_of_shares l.yielded;
      apart : l.rest.parts ≤ g.J.Ledger.parts;
    }
