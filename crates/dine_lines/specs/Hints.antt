-- Guesses at the places of names, in slots that their letters pick.
use Rattle.std.specs.Prelude.{◌≡◌, ◌≢◌, ◌<◌, ◌*◌, ◌/◌, ◌%◌, ◌^◌, ℕ, List, length, take, drop, bit_xor, slice_index, Some}
use Rattle.std.specs.Int.{from_le_bytes, rotate_left, w64}
use Rattle.dine_words.specs.declared.task.Task.{Task}
use Rattle.dine_lines.specs.Names.{Names, task_named}
use Rattle.dine_lines.specs.Padding.{padded}

-- the slot that two numbers of eight letters each pick, where a product is shifted by so many bits
abbrev pub slot_number : ℕ → ℕ → ℕ → ℕ
slot_number shift low high =
    (bit_xor low (rotate_left w64 high 29) * 11400714819323198485 % 2 ^ 64) / 2 ^ (shift % 64)

-- no guess stands in the slot
abbrev pub IsVacant : List ℕ → ℕ → Type 0
IsVacant places slot = (slot < length places) × (slice_index places slot ≡ 4294967295)

-- a guess stands in the slot, or there is no such slot
abbrev pub IsTaken : List ℕ → ℕ → Type 0
IsTaken places slot = slot < length places → slice_index places slot ≢ 4294967295

-- the slot that the letters of a name pick
abbrev pub slot_of_name : ℕ → List ℕ → ℕ
slot_of_name shift name =
    slot_number shift (from_le_bytes w64 (take 8 (padded name))) (from_le_bytes w64 (drop 8 (padded name)))

-- a guess stands in the slot of each bound name, if there is such a slot
abbrev pub AreNoted : List ℕ → ℕ → Names → Type 0
AreNoted places shift names =
    (name : List ℕ) (t : Task) → task_named names name ≡ Some t → IsTaken places (slot_of_name shift name)
