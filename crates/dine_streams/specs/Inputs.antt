-- What is known of an input that is read a piece at a time, or not read to its end.
use Rattle.std.specs.Prelude.{◌≡◌, ℕ, ◌+◌, ◌<◌, ◌≤◌, ◌⊎◌, Bool, false, true, List, ◌++◌, length, Option, IfSome}
use Rattle.std.specs.Io.KnownBytes.{Consumes, IsAtEnd}

-- the most bytes that an input may have
abbrev pub most_bytes_of_an_input : ℕ
most_bytes_of_an_input = 16777216

-- the text that was read and wasn't dealt with yet, how many bytes came in all, and whether the end has
pub record HeardInput : Type 0 where
  pub text : List ℕ
  pub heard : ℕ
  pub is_at_end : Bool

-- the first bytes of the room are filled with what was read, no more than came in all
pub record IsInput (room : List ℕ) (filled heard : ℕ) : Type 0 where
  pub within : filled ≤ length room
  pub few : filled ≤ heard
  pub most : heard ≤ most_bytes_of_an_input

-- these bytes came: at least so many, or all up to the end. Where the end had come before, nothing is read
pub record HearsMore (old new : HeardInput) (before after : Option (List ℕ)) (enough : ℕ) : Type 0 where
  pub bytes : List ℕ
  pub consumed : Consumes before after bytes
  pub text : new.text ≡ old.text ++ bytes
  pub heard : new.heard ≡ old.heard + length bytes
  pub most : new.heard ≤ most_bytes_of_an_input
  pub some : new.is_at_end ≡ false → enough ≤ length bytes
  pub at_end : old.is_at_end ≡ false → new.is_at_end ≡ true → IsAtEnd after
  pub ended : old.is_at_end ≡ true → new.is_at_end ≡ true
  pub still : old.is_at_end ≡ true → after ≡ before

-- these bytes of an input came so far, and where the end has come none is left
pub record IsHeardSoFar (bytes : List ℕ) (first now : Option (List ℕ)) (input : HeardInput) : Type 0 where
  pub consumed : Consumes first now bytes
  pub counted : length bytes ≡ input.heard
  pub most : input.heard ≤ most_bytes_of_an_input
  pub at_end : input.is_at_end ≡ true → IsAtEnd now

-- the bytes, where they are known, are more than so many
abbrev pub IsPast : ℕ → Option (List ℕ) → Type 0
IsPast most known = IfSome known (λ bytes. most < length bytes)

-- the reader is marked, or its bytes, where they are known, are more than so many
abbrev pub IsMarkedOrPast : ℕ → Bool → Option (List ℕ) → Type 0
IsMarkedOrPast most mark known = (mark ≡ true) ⊎ IfSome known (λ bytes. most < length bytes)

-- the reader is marked, or its bytes, where they are known, are more than an input may have
abbrev pub IsMarkedOrLong : Bool → Option (List ℕ) → Type 0
IsMarkedOrLong mark known = (mark ≡ true) ⊎ IfSome known (λ bytes. most_bytes_of_an_input < length bytes)

-- all that was left was read, no more than so many bytes, and no read failed, as the marks before and after tell
pub record IsReadOut (most : ℕ) (first now : Option (List ℕ)) (old new : Bool) : Type 0 where
  pub at_end : IsAtEnd now
  pub few : IfSome first (λ bytes. length bytes ≤ most)
  pub unmarked : new ≡ old

-- so an input was read
abbrev pub IsReadWhole : Option (List ℕ) → Option (List ℕ) → Bool → Bool → Type 0
IsReadWhole first now old new = IsReadOut most_bytes_of_an_input first now old new

-- all that was left was read, or more than so many bytes were, and no read failed
pub record IsReadPast (most : ℕ) (first now : Option (List ℕ)) (old new : Bool) : Type 0 where
  pub bytes : List ℕ
  pub consumed : Consumes first now bytes
  pub far : IsAtEnd now ⊎ (most < length bytes)
  pub unmarked : new ≡ old
