-- What the answers of a book say of its records.
use Rattle.std.proofs.Common.{◌≡◌, ℕ, false, List, [], ◌∷◌, None, refl, arith}
use Rattle.dine_forks.specs.declared.record.ForkRecord.{ForkRecord}
use Rattle.dine_forks.specs.Book.{are_joined, id_between}

-- two slots whose record isn't found are not joined
pub apart_if_not_found : (a b : ℕ) (rs : List ForkRecord) → id_between a b rs ≡ None → are_joined a b rs ≡ false
apart_if_not_found a b [] h = refl
apart_if_not_found a b (x ∷ xs) h = grind (arith, apart_if_not_found a b xs)
