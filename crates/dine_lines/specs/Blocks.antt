-- What the lanes of a vector say of a block of bytes.
use Rattle.std.specs.Prelude.{◌≡◌, ◌<◌, ◌==◌, ℕ, Bool, not, List, length, slice_index}
use Rattle.memchr.specs.Find.{Nowhere, Passes, is_byte}

-- no byte from one place up to another is a line feed
abbrev pub HasNoFeed : List ℕ → ℕ → ℕ → Type 0
HasNoFeed text from to = Nowhere (Passes (is_byte 10) text) from to

-- each lane is above a line feed
abbrev pub AllAbove : List ℕ → Type 0
AllAbove lanes = (lane : ℕ) → lane < 16 → 10 < slice_index lanes lane

-- the vector has 16 lanes, and no byte from one place up to another is a line feed, where all lanes are above one
abbrev pub Bounds : List ℕ → List ℕ → ℕ → ℕ → Type 0
Bounds lanes text from to = (length lanes ≡ 16) × (AllAbove lanes → HasNoFeed text from to)

-- whether a byte is no line feed
abbrev pub no_line_feed : ℕ → Bool
no_line_feed byte = not (byte == 10)
