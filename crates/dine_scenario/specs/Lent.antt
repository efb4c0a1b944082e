-- Lines that are lent.
use Rattle.std.specs.Borrow.{Bor}
use Rattle.std.specs.Prelude.{ℕ, List, map}

-- the lines to which references point
abbrev pub lent : List (Bor (List ℕ)) → List (List ℕ)
lent lines = map (λ line. line.now) lines
