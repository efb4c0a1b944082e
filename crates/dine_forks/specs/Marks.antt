-- Marks of slots: each fork that a marked slot has is dirty, whatever is kept of it.
use Rattle.std.specs.Prelude.{◌≡◌, ℕ, Bool, false, if◌then◌else◌, List, length, map, slice_index_or}
use Rattle.dine_forks.specs.Book.{Fork, ForkRecord, ForkBook, changed_where, dirtied, is_end}
use Rattle.dine_forks.specs.Counts.{count_in}
use Rattle.dine_forks.specs.Held.{holder, is_holder}

-- the slot is marked
abbrev pub is_marked : List Bool → ℕ → Bool
is_marked marks slot = slice_index_or marks slot false

-- the record as it is seen: its fork is dirty where its holder is marked
abbrev pub seen_record : List Bool → ForkRecord → ForkRecord
seen_record marks r =
    if is_marked marks (holder r) then record { id = r.id; first = r.first; second = r.second; fork = dirtied r.fork }
    else r

-- the book as it is seen
abbrev pub seen_book : List Bool → ForkBook → ForkBook
seen_book marks book = record book { records = map (seen_record marks) book.records }

-- the record, its fork dirty
abbrev pub dirtied_record : ForkRecord → ForkRecord
dirtied_record r = record { id = r.id; first = r.first; second = r.second; fork = dirtied r.fork }

-- ---- a mark is taken off

-- the fork of a record, dirty if the slot has it
abbrev pub own_dirtied_fork : ℕ → ForkRecord → Fork
own_dirtied_fork slot r = if is_holder slot r then dirtied r.fork else r.fork

-- the record, its fork dirty if the slot has it
abbrev pub own_dirtied_at : ℕ → ForkRecord → ForkRecord
own_dirtied_at slot r = changed_where (is_end slot) (own_dirtied_fork slot) r

-- one book is seen as another, and its slots lack as many forks and are asked for as many
pub record IsSeenAlike (old : ForkBook) (old_marks : List Bool) (new : ForkBook) (marks : List Bool) : Type 0 where
  pub slots : new.slots ≡ old.slots
  pub marked : length marks ≡ length old_marks
  pub same : seen_book marks new ≡ seen_book old_marks old
  pub counted : (slot : ℕ) → count_in new.records slot ≡ count_in old.records slot
