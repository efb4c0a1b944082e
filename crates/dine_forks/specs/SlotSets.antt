-- Sets of slots, and the bits that they are kept as.
use Rattle.std.specs.Prelude.{◌≡◌, ℕ, ◌+◌, ◌*◌, ◌/◌, ◌%◌, ◌==◌, ◌<◌, ◌≤◌, ◌^◌, Bool, false, not, List, length, map, drop, slice_index, slice_index_or}
use Rattle.std.specs.List.{range_with_len, prefix_len}
use Rattle.std.specs.Int.{bit_at}

-- the least slot from a slot on that is a member, or the number of slots where none is
abbrev pub first_member : ℕ → List Bool → ℕ
first_member from members = from + prefix_len not (drop from members)

-- the bit of a place in words of 64 bits each, 0 behind the last word
abbrev pub bit_in : List ℕ → ℕ → ℕ
bit_in words place = bit_at (slice_index words (place / 64)) (place % 64)

-- for each slot whether its bit is set
abbrev pub members_of : ℕ → List ℕ → List Bool
members_of slots words = map (λ slot. bit_in words slot == 1) (range_with_len 0 slots)

-- of the places from one on and below an end, a place is the first whose bit is set, or the end where none is
pub record IsFirstSet (bits : ℕ → ℕ) (from : ℕ) (end : ℕ) (found : ℕ) : Type 0 where
  pub from_there : from ≤ found
  pub within : found ≤ end
  pub before : (place : ℕ) → from ≤ place → place < found → bits place ≡ 0
  pub here : found < end → bits found ≡ 1

-- what a set keeps true: no bit stands for what is no slot, and a second row of bits tells which words are not 0
pub record MarksWords (slots : ℕ) (words : List ℕ) (marks : List ℕ) : Type 0 where
  pub room : slots ≤ 64 * length words
  pub room_of_marks : length words ≤ 64 * length marks
  pub small : length words < 2 ^ 32
  pub small_marks : length marks < 2 ^ 32
  pub none_behind : (place : ℕ) → slots ≤ place → bit_in words place ≡ 0
  pub no_marks_behind : (word : ℕ) → slots ≤ 64 * word → bit_in marks word ≡ 0
  pub marked : (word : ℕ) → (bit_in marks word == 0) ≡ (slice_index words word == 0)

-- the bits tell which of the 64 slots of a word are members
pub record AreMembers (members : List Bool) (word : ℕ) (bits : ℕ) : Type 0 where
  pub told : (k : ℕ) → k < 64 → (bit_at bits k == 1) ≡ slice_index_or members (64 * word + k) false

-- the bits tell which of the first 64 words may have members: each of these has a slot, and another has no member
pub record AreWords (members : List Bool) (bits : ℕ) : Type 0 where
  pub within : (word : ℕ) → word < 64 → bit_at bits word ≡ 1 → 64 * word < length members
  pub none : (word : ℕ) → word < 64 → bit_at bits word ≡ 0
      → (slot : ℕ) → 64 * word ≤ slot → slot < 64 * word + 64 → slice_index_or members slot false ≡ false
