-- The signatures: for each slot 64 bits, each of which stands for all slots whose numbers are the same modulo 64.
use Rattle.std.specs.Prelude.{◌≡◌, ℕ, ◌%◌, ◌^◌, ◌==◌, Bool, true, if◌then◌else◌, List, [], ◌∷◌, length, slice_index_or, slice_set}
use Rattle.std.specs.Int.{bit_at}
use Rattle.std.specs.Int.Bits.{bit_or}
use Rattle.dine_forks.specs.Book.{ForkBook, ForkRecord}

-- the signature of a slot
abbrev pub signature_of : List ℕ → ℕ → ℕ
signature_of signatures slot = slice_index_or signatures slot 0

-- the signature of the slot has the bit of the other one
abbrev pub has_bit_of : List ℕ → ℕ → ℕ → Bool
has_bit_of signatures slot other = bit_at (signature_of signatures slot) (other % 64) == 1

-- the signatures once that of the slot, which had so many records, has the bit of the other one: none of those before stays
-- where it had no record
abbrev pub noted : ℕ → ℕ → ℕ → List ℕ → List ℕ
noted slot other degree signatures =
    slice_set signatures slot (bit_or (if degree == 0 then 0 else signature_of signatures slot) (2 ^ (other % 64)))

-- the signature of each end of a record has the bit of its other end
abbrev pub AreNoted : List ℕ → List ForkRecord → Type 0
AreNoted signatures [] = Unit {0}
AreNoted signatures (r ∷ rs) =
    (has_bit_of signatures r.first r.second ≡ true) × (has_bit_of signatures r.second r.first ≡ true) × AreNoted signatures rs

-- each slot of the book has a signature, and the records are noted there
pub record AreSignatures (signatures : List ℕ) (book : ForkBook) : Type 0 where
  pub long : length signatures ≡ book.slots
  pub each : AreNoted signatures book.records
