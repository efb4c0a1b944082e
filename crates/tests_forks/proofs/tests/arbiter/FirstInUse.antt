-- The first record of a slot's list is a record of the book.
use Rattle.std.proofs.Common.{◌≡◌, ℕ, true, List, Some}
use Rattle.dine_forks.specs.declared.record.ForkId.{ForkId}
use Rattle.dine_forks.specs.declared.record.ForkRecord.{ForkRecord}
use Rattle.dine_forks.specs.Book.{first_id, is_in_use, slot_list}
use Rattle.dine_forks.proofs.CallerLemmas.{in_use_if_first, in_use_of_slot}

-- the first record of a slot is one of the book
pub first_in_use : (slot : ℕ) (id : ForkId) (rs : List ForkRecord) → first_id (slot_list slot rs) ≡ Some id → is_in_use id rs ≡ true
first_in_use slot id rs h = in_use_of_slot slot id rs (in_use_if_first id (slot_list slot rs) h)
