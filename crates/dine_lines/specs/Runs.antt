-- How many bytes at the front of a text pass a test, found by the bits of a mask.
use Rattle.std.specs.Prelude.{◌≡◌, ◌<◌, ◌≤◌, ◌==◌, ℕ, Bool, true, false, if◌then◌else◌, List, slice_index}
use Rattle.std.specs.Int.{trailing_zeros, w64}

-- each of the first bytes passes the test
abbrev pub AllPassIn : (ℕ → Bool) → List ℕ → ℕ → Type 0
AllPassIn test text run = (k : ℕ) → k < run → test (slice_index text k) ≡ true

-- at most so many bytes at the front of the text pass the test, and the next of them fails it
abbrev pub IsRunIn : (ℕ → Bool) → List ℕ → ℕ → ℕ → Type 0
IsRunIn test text most run =
    (run ≤ most) × AllPassIn test text run × (run < most → test (slice_index text run) ≡ false)

-- the place of the lowest bit of a mask, or so many where it has none
abbrev pub first_bit : ℕ → ℕ → ℕ
first_bit mask most = if mask == 0 then most else trailing_zeros w64 mask
