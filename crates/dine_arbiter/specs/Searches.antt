-- A search for the slots whose task is hungry and holds all of its forks.
use Rattle.std.specs.Prelude.{◌≡◌, ℕ, ◌+◌, ◌*◌, ◌/◌, ◌%◌, ◌^◌, ◌==◌, ◌<◌, ◌≤◌, Bool, true, false, ◌&&◌, ◌||◌, List, filter, length, slice_index_or}
use Rattle.std.specs.Int.{bit_at}
use Rattle.std.specs.List.{list_all, range_with_len}
use Rattle.dine_forks.specs.Book.{ForkBook, holds, slot_list}
use Rattle.dine_arbiter.specs.declared.search.Search.{Search}

-- the slot holds the forks of all its records
abbrev pub holds_all_at : ForkBook → ℕ → Bool
holds_all_at book slot = list_all (holds slot) (slot_list slot book.records)

-- the task of the slot is hungry, and the slot holds the forks of all its records
abbrev pub is_ready_slot : List Bool → ForkBook → ℕ → Bool
is_ready_slot hungry book slot = slice_index_or hungry slot false && holds_all_at book slot

-- the slots of which this is true, the least first
abbrev pub ready_slots : List Bool → ForkBook → List ℕ
ready_slots hungry book = filter (is_ready_slot hungry book) (range_with_len 0 (length hungry))

-- a search has still to come to the slot: it is in a word to be gone through, or one to be asked about
abbrev pub is_ahead : Search → ℕ → Bool
is_ahead s slot = (bit_at s.words (slot / 64) == 1) || ((slot / 64 == s.first / 64) && (bit_at s.members (slot % 64) == 1))

-- what it has still to find
abbrev pub slots_left : Search → List Bool → ForkBook → List ℕ
slots_left s hungry book =
    filter (λ slot. is_ahead s slot && is_ready_slot hungry book slot) (range_with_len 0 (length hungry))

-- what gets less with each slot that is asked about
abbrev pub weight_of : Search → ℕ
weight_of s = s.words * 2 ^ 64 + s.members

-- what a search keeps true: its words have slots, its slots are those of hungry tasks, and its words are behind the one that
-- it goes through
pub record IsSearch (hungry : List Bool) (s : Search) : Type 0 where
  pub few : length hungry ≤ 4096
  pub in_range : s.first < 4096
  pub at_word : s.first % 64 ≡ 0
  pub words : (word : ℕ) → word < 64 → bit_at s.words word ≡ 1 → 64 * word < length hungry
  pub members : (k : ℕ) → k < 64 → bit_at s.members k ≡ 1 → slice_index_or hungry (s.first + k) false ≡ true
  pub in_order : (word : ℕ) → word ≤ s.first / 64 → bit_at s.words word ≡ 1 → s.members ≡ 0
