-- What a search for the record of two slots reads.
use Rattle.std.specs.Prelude.{ℕ, suc, nat_lt, if◌then◌else◌, List, [], ◌∷◌, length}
use Rattle.dine_forks.specs.Book.{ForkRecord, is_between, slot_list}

-- the place among the records, counted from 1, of the first that joins the two slots, or their number where none does
abbrev pub place_between : ℕ → ℕ → List ForkRecord → ℕ
place_between a b [] = 0
place_between a b (r ∷ rs) = if is_between a b r then 1 else suc (place_between a b rs)

-- of two slots the one with fewer records, the first named where both have as many
abbrev pub searched_end : ℕ → ℕ → List ForkRecord → ℕ
searched_end a b records = if nat_lt (length (slot_list b records)) (length (slot_list a records)) then b else a

-- how many records a search for the one of two slots reads, along the list of the slot with fewer
abbrev pub records_read : ℕ → ℕ → List ForkRecord → ℕ
records_read a b records = place_between a b (slot_list (searched_end a b records) records)
