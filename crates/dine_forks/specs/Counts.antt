-- How many forks each slot lacks, and is asked for, and which slots lack some: what is kept beside the lists.
use Rattle.std.specs.Prelude.{◌≡◌, ◌≢◌, ℕ, ◌+◌, ◌-◌, ◌==◌, ◌<◌, ◌≤◌, Bool, true, false, not, ◌&&◌, if◌then◌else◌, List, length, filter, slice_index_or, slice_set}
pub use Rattle.dine_forks.specs.declared.counts.Count.{Count}
use Rattle.dine_forks.specs.declared.rules.Reach.{Reach}
use Rattle.dine_forks.specs.declared.rules.Reach.TheVariants as reach
use Rattle.dine_forks.specs.Book.{Fork, ForkBook, ForkRecord}
use Rattle.dine_forks.specs.Held.{is_asked_of, is_non_holder}

-- a slot that lacks no fork, and is asked for none
abbrev pub no_count : Count
no_count = record { lacked = 0; asked = 0 }

-- the count of the slot
abbrev pub count_at : List Count → ℕ → Count
count_at counts slot = slice_index_or counts slot no_count

-- ---- one fork

-- 1 where it is so, and else 0
abbrev pub one_if : Bool → ℕ
one_if b = if b then 1 else 0

-- the first end lacks the fork, or the second
abbrev pub lacks : Bool → Fork → Bool
lacks first fork = if first then not fork.at_first else fork.at_first

-- it has the fork, and its request token: the other end has asked for it
abbrev pub is_asked : Bool → Fork → Bool
is_asked first fork = if first then fork.at_first && fork.token_first else not fork.at_first && not fork.token_first

-- the count with a fork more, of which the slot is the first end or the second
abbrev pub count_with : Bool → Fork → Count → Count
count_with first fork c = record { lacked = c.lacked + one_if (lacks first fork); asked = c.asked + one_if (is_asked first fork) }

-- the count with that fork less
abbrev pub count_without : Bool → Fork → Count → Count
count_without first fork c = record { lacked = c.lacked - one_if (lacks first fork); asked = c.asked - one_if (is_asked first fork) }

-- the count with another fork in place of that one
abbrev pub recounted : Bool → Fork → Fork → Count → Count
recounted first had fork c = count_with first fork (count_without first had c)

-- the counts of a slot, which is the first end of a record or the second, and of its other end, with another fork in place of
-- that one
abbrev pub both_recounted : Bool → ℕ → ℕ → Fork → Fork → List Count → List Count
both_recounted first slot other had fork counts =
    slice_set (slice_set counts slot (recounted first had fork (count_at counts slot))) other
    (recounted (not first) had fork (count_at counts other))

-- the fork is in the count of the slot, as that of the first end or the second, and the count isn't too large
pub record IsCounted (first : Bool) (slot : ℕ) (had : Fork) (counts : List Count) : Type 0 where
  pub within : slot < length counts
  pub lacked : one_if (lacks first had) ≤ (count_at counts slot).lacked
  pub asked : one_if (is_asked first had) ≤ (count_at counts slot).asked
  pub few : (count_at counts slot).lacked ≤ 65536
  pub few_asked : (count_at counts slot).asked ≤ 65536

-- it is in the counts of both ends, the slot and the other, which differ
pub record CanCount (first : Bool) (slot other : ℕ) (had : Fork) (counts : List Count) : Type 0 where
  pub here : IsCounted first slot had counts
  pub there : IsCounted (not first) other had counts
  pub apart : other ≢ slot

-- ---- one record

-- the count of the slot with a record more, if it is an end
abbrev pub counted_more : ℕ → ForkRecord → Count → Count
counted_more slot r c = if slot == r.first then count_with true r.fork c else if slot == r.second then count_with false r.fork c else c

-- and with a record less
abbrev pub counted_less : ℕ → ForkRecord → Count → Count
counted_less slot r c = if slot == r.first then count_without true r.fork c else if slot == r.second then count_without false r.fork c else c

-- the ends of the record are two slots with counts
pub record AreCountedEnds (r : ForkRecord) (counts : List Count) : Type 0 where
  pub differ : r.first ≢ r.second
  pub first : r.first < length counts
  pub second : r.second < length counts

-- the record can come: its ends have counts that aren't too large
pub record CanAdd (r : ForkRecord) (counts : List Count) : Type 0 where
  pub ends : AreCountedEnds r counts
  pub few : (slot : ℕ) → slot < length counts → ((count_at counts slot).lacked ≤ 65536) × ((count_at counts slot).asked ≤ 65536)

-- it can go: its fork is counted at its ends
pub record CanRemove (r : ForkRecord) (counts : List Count) : Type 0 where
  pub ends : AreCountedEnds r counts
  pub first : (one_if (lacks true r.fork) ≤ (count_at counts r.first).lacked) × (one_if (is_asked true r.fork) ≤ (count_at counts r.first).asked)
  pub second : (one_if (lacks false r.fork) ≤ (count_at counts r.second).lacked) × (one_if (is_asked false r.fork) ≤ (count_at counts r.second).asked)

-- ---- all records

-- how many records have the slot as the end that lacks the fork, and how many as a holder that is asked for it
abbrev pub count_in : List ForkRecord → ℕ → Count
count_in records slot = record { lacked = length (filter (is_non_holder slot) records); asked = length (filter (is_asked_of slot) records) }

-- the slot is in the set
abbrev pub is_member : List Bool → ℕ → Bool
is_member lacking slot = slice_index_or lacking slot false

-- the counts are those of the records, each slot has its mark or lacks it, and each member of the set lacks a fork. Who is no
-- member may lack one too
pub record IsTied (book : ForkBook) (counts : List Count) (marks lacking : List Bool) : Type 0 where
  pub places : length counts ≡ book.slots
  pub counted : (slot : ℕ) → slot < book.slots → count_at counts slot ≡ count_in book.records slot
  pub marked : length marks ≡ book.slots
  pub listed : length lacking ≡ book.slots
  pub lack : (slot : ℕ) → is_member lacking slot ≡ true → 1 ≤ (count_at counts slot).lacked

-- ---- the set

-- the set after a walk of the slot, which lacks a fork then: who has walked the forks that it lacks has asked for them, and is
-- put in
abbrev pub asker_set : ℕ → Reach → List Bool → List Bool
asker_set slot reach.Lacked lacking = slice_set lacking slot true
asker_set slot reach.Asked lacking = lacking
asker_set slot reach.All lacking = lacking

-- the set after a walk of the slot, which lacks so many forks then: it is out of it where it lacks none
abbrev pub kept_set : ℕ → ℕ → Reach → List Bool → List Bool
kept_set slot lacked reach lacking =
    if lacked == 0 then slice_set lacking slot false else asker_set slot reach lacking

-- the set, and the slot is taken out that has gained a fork and lacks none
abbrev pub relieved : ℕ → Bool → ℕ → List Bool → List Bool
relieved slot gained lacked lacking = if gained then (if lacked == 0 then slice_set lacking slot false else lacking) else lacking
