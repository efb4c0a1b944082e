use Rattle.std.specs.Prelude.{◌≡◌, take}
use Rattle.dine_uses.specs.Recording.{HasMade}
use Rattle.dine_uses.proofs.recorded.make_all.Given as goal

-- the calls so far were made
abbrev pub invariant-loop-call : goal.invariant-loop-call
invariant-loop-call l = record {
  limits : l.hall.limits ≡ l.fn.hall.limits;
  made : HasMade (take l.call-index l.calls) l.hall.history;
}
