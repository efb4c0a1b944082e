-- What becomes of lines that wait to be written.
use Rattle.std.specs.Prelude.{◌≡◌, ℕ, ◌⊎◌, List, [], Option}
use Rattle.std.specs.Io.KnownBytes.{Appends, Keeps}

-- the lines that wait were written and none waits now, or they still wait and nothing was written
abbrev pub MovesOn : Option (List ℕ) → Option (List ℕ) → List ℕ → List ℕ → Type 0
MovesOn old new before after = (Appends old new before × (after ≡ [])) ⊎ (Keeps old new × (after ≡ before))
