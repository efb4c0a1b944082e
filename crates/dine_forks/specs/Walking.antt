-- A walk of a slot's list that runs rules at its records.
use Rattle.std.specs.Prelude.{◌≡◌, ℕ, ◌==◌, ◌<◌, ◌≤◌, Bool, true, false, not, ◌||◌, if◌then◌else◌, List, map, slice_set}
use Rattle.std.specs.List.{list_all}
use Rattle.dine_forks.specs.declared.record.At.{At}
use Rattle.dine_forks.specs.declared.rules.Reach.{Reach}
use Rattle.dine_forks.specs.declared.rules.Reach.TheVariants as reach
use Rattle.dine_forks.specs.Book.{Fork, ForkBook, ForkRecord, IsAt, Onward, behind, book_with_fork, changed_where, dirtied, first_id, is_end, other_end, reached, slot_list}
use Rattle.dine_forks.specs.Counts.{Count, IsTied, is_asked, lacks, one_if}
use Rattle.dine_forks.specs.Edges.{is_first}
use Rattle.dine_forks.specs.Marks.{is_marked, seen_book, seen_record}

-- a walk has to do with a fork whose first end is the slot, or whose second
abbrev pub is_reached : Reach → Bool → Fork → Bool
is_reached reach.Lacked first fork = lacks first fork
is_reached reach.Asked first fork = is_asked first fork
is_reached reach.All first fork = true

-- it has to do with the record
abbrev pub is_reached_at : Reach → ℕ → ForkRecord → Bool
is_reached_at reach slot r = is_reached reach (slot == r.first) r.fork

-- 1 if it has to do with the record, and else 0
abbrev pub times_reached : Reach → ℕ → ForkRecord → ℕ
times_reached reach slot r = one_if (is_reached_at reach slot r)

-- ---- one record

-- the fork of a record of the slot, once the rules have run there if they reach it
abbrev pub walked_fork : Reach → (Bool → ℕ → Fork → Fork) → ℕ → ForkRecord → Fork
walked_fork reach forks slot r = if is_reached_at reach slot r then forks (slot == r.first) (other_end slot r) r.fork else r.fork

-- the record so, if the slot is an end
abbrev pub walked_at : Reach → (Bool → ℕ → Fork → Fork) → ℕ → ForkRecord → ForkRecord
walked_at reach forks slot r = changed_where (is_end slot) (walked_fork reach forks slot) r

-- the book so
abbrev pub walked_book : Reach → (Bool → ℕ → Fork → Fork) → ℕ → ForkBook → ForkBook
walked_book reach forks slot book = record book { records = map (walked_at reach forks slot) book.records }

-- the same where the mark of the slot has ended and its forks are yet to be written dirty
abbrev pub owed_fork : Bool → Reach → (Bool → ℕ → Fork → Fork) → ℕ → ForkRecord → Fork
owed_fork owes reach forks slot r =
    if is_reached_at reach slot r then forks (slot == r.first) (other_end slot r) r.fork else if owes then dirtied r.fork else r.fork

-- the record so, if the slot is an end
abbrev pub owed_at : Bool → Reach → (Bool → ℕ → Fork → Fork) → ℕ → ForkRecord → ForkRecord
owed_at owes reach forks slot r = changed_where (is_end slot) (owed_fork owes reach forks slot) r

-- 1 if such a walk has to do with it, and else 0
abbrev pub times_walked : Bool → Reach → ℕ → ForkRecord → ℕ
times_walked owes reach slot r = one_if (owes || is_reached_at reach slot r)

-- the fork of a record is such as the rules meet, or they don't reach it
abbrev pub is_met_at : Reach → (Bool → Fork → Bool) → ℕ → ForkRecord → Bool
is_met_at reach meets slot r = meets (slot == r.first) r.fork || not (is_reached_at reach slot r)

-- so is that of each record of the slot
abbrev pub DoMeet : Reach → (Bool → Fork → Bool) → ℕ → ForkBook → Type 0
DoMeet reach meets slot book = list_all (is_met_at reach meets slot) (slot_list slot book.records) ≡ true

-- ---- a step of the walk

-- all is tied, where the slot is out of the set
abbrev pub IsTiedBut : ℕ → ForkBook → List Count → List Bool → List Bool → Type 0
IsTiedBut slot book counts marks lacking = IsTied book counts marks (slice_set lacking slot false)

-- the slot is at a record
pub record CanPut (at : At) (book : ForkBook) (counts : List Count) (marks lacking : List Bool) : Type 0 where
  pub listed : IsAt at.slot at.id at.visited book.records
  pub end : is_first at.end ≡ (at.slot == at.visited.first)
  pub tied : IsTiedBut at.slot book counts marks lacking
  pub own : at.unmarked ≡ true → is_marked marks at.slot ≡ false

-- a slot that has no mark gets none
abbrev pub StaysOff : ℕ → List Bool → List Bool → Type 0
StaysOff slot old_marks marks = is_marked old_marks slot ≡ false → is_marked marks slot ≡ false

-- another fork is at that record, and all is tied
pub record HasPut
    (at : At) (fork : Fork) (old : ForkBook) (old_marks : List Bool)
    (new : ForkBook) (counts : List Count) (marks lacking : List Bool) : Type 0 where
  pub tied : IsTiedBut at.slot new counts marks lacking
  pub slots : new.slots ≡ old.slots
  pub off : StaysOff at.slot old_marks marks
  pub book : seen_book marks new ≡ book_with_fork at.id fork (seen_book old_marks old)

-- the two forks are at one side, and so are their tokens
pub record IsSided (a b : Fork) : Type 0 where
  pub at : a.at_first ≡ b.at_first
  pub token : a.token_first ≡ b.token_first

-- a walk is at a record, whose fork the rules meet if they reach it
pub record CanStep (reach : Reach) (meets : Bool → Fork → Bool) (at : At) (book : ForkBook) (counts : List Count) (marks lacking : List Bool) : Type 0 where
  pub can : CanPut at book counts marks lacking
  pub met : is_met_at reach meets at.slot (seen_record marks at.visited) ≡ true

-- it has run the rules there if they reach it, and is told what follows and whether it had to do with the record
pub record HasStepped
    (reach : Reach) (forks : Bool → ℕ → Fork → Fork) (at : At) (old : ForkBook) (old_marks : List Bool)
    (new : ForkBook) (counts : List Count) (marks lacking : List Bool) (onward : Onward) (hit : Bool) : Type 0 where
  pub tied : IsTiedBut at.slot new counts marks lacking
  pub slots : new.slots ≡ old.slots
  pub off : StaysOff at.slot old_marks marks
  pub book :
      seen_book marks new
      ≡ book_with_fork at.id (owed_fork at.owes reach forks at.slot (seen_record old_marks at.visited)) (seen_book old_marks old)
  pub told : one_if hit ≡ times_walked at.owes reach at.slot at.visited
  pub next : reached old onward ≡ first_id (behind at.id (slot_list at.slot old.records))

-- ---- a whole walk

-- the mark of a slot has ended before a walk that asks for forks, which are yet to be written dirty where the slot has them
pub record HasEndedMark (r : Reach) (slot : ℕ) (old_marks marks : List Bool) (owes : Bool) : Type 0 where
  pub off : r ≡ reach.Lacked → is_marked marks slot ≡ false
  pub same : owes ≡ false → marks ≡ old_marks
  pub asks : owes ≡ true → r ≡ reach.Lacked
  pub was : owes ≡ true → is_marked old_marks slot ≡ true
  pub ended : owes ≡ true → marks ≡ slice_set old_marks slot false

-- the rules know each slot, and meet the fork of each record of the slot that they reach
pub record CanWalk
    (places : ℕ) (reach : Reach) (meets : Bool → Fork → Bool) (slot : ℕ)
    (book : ForkBook) (counts : List Count) (marks lacking : List Bool) : Type 0 where
  pub within : slot < book.slots
  pub known : book.slots ≤ places
  pub met : DoMeet reach meets slot (seen_book marks book)
  pub tied : IsTied book counts marks lacking

-- they have run there
pub record HasWalked
    (reach : Reach) (forks : Bool → ℕ → Fork → Fork) (slot : ℕ) (old : ForkBook) (old_marks : List Bool)
    (new : ForkBook) (counts : List Count) (marks lacking : List Bool) : Type 0 where
  pub tied : IsTied new counts marks lacking
  pub slots : new.slots ≡ old.slots
  pub book : seen_book marks new ≡ walked_book reach forks slot (seen_book old_marks old)
