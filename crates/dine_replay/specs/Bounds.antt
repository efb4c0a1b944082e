-- How much of a journal may be read.
use Rattle.std.specs.Prelude.{◌≡◌, ℕ, ◌+◌, ◌-◌, ◌^◌, ◌<◌, ◌≤◌, Bool, true, List, length, Option, IfSome}
use Rattle.std.specs.Io.KnownBytes.{Consumes, IsAtEnd}
pub use Rattle.dine_streams.specs.Inputs.{IsMarkedOrPast}
use Rattle.dine_replay.specs.declared.bound.Bound.{Bound}

-- of the first bytes, of which there may be so many, these were heard, and so many more may come; and where the end has come
-- none is left
pub record IsWithinBound (most : ℕ) (first now : Option (List ℕ)) (bound : Bound) : Type 0 where
  pub heard : List ℕ
  pub consumed : Consumes first now heard
  pub counted : length heard + bound.allowed ≡ most
  pub few : most < 2 ^ 64 - 2
  pub end : bound.is_at_end ≡ true → IsAtEnd now

-- however many there may be, and whatever was heard before, so it is after what was heard
abbrev pub StaysWithinBound : Option (List ℕ) → Option (List ℕ) → Bound → Bound → Type 0
StaysWithinBound old new before after =
    (most : ℕ) (first : Option (List ℕ)) → IsWithinBound most first old before → IsWithinBound most first new after

-- however many there may be, and whatever was heard before, the reader is marked, or there are more
abbrev pub IsMarkedOrPastFrom : Bool → Option (List ℕ) → Bound → Type 0
IsMarkedOrPastFrom mark old bound =
    (most : ℕ) (first : Option (List ℕ)) → IsWithinBound most first old bound → IsMarkedOrPast most mark first

-- however many there may be, and whatever was heard before, none is left, and there were no more
abbrev pub IsReadToEnd : Option (List ℕ) → Option (List ℕ) → Bound → Type 0
IsReadToEnd old new bound =
    (most : ℕ) (first : Option (List ℕ)) → IsWithinBound most first old bound → IsAtEnd new × IfSome first (λ bytes. length bytes ≤ most)
