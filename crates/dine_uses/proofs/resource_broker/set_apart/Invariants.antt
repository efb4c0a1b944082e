use Rattle.std.specs.Prelude.{◌≡◌, take}
use Rattle.dine_table.specs.Sound.{IsSound}
use Rattle.dine_uses.specs.Requests.{with_rivals}
use Rattle.dine_uses.proofs.resource_broker.set_apart.Given as goal

-- the rivals so far are rivals
abbrev pub invariant-loop-rival : goal.invariant-loop-rival
invariant-loop-rival l = record {
  rivals : l.arbiter.table ≡ with_rivals l.fn.arbiter.table l.client (take l.rival-index l.rivals);
  clock : l.arbiter.table.clock ≡ l.fn.arbiter.table.clock;
  sound : IsSound l.fn.arbiter.table → IsSound l.arbiter.table;
}
