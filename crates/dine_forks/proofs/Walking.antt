-- A walk of a slot's list that runs rules at its records: one step, and what is left.
use Rattle.dine_forks.proofs.Words.{◌+◌, ◌-◌, get_or-set_other, get_or-set_same, ◌≡◌, ◌≢◌, ◌||◌, ◌≤◌, is_asked, no_count, set-get_or, subst, ℕ, ◌<◌, Bool, true, false, not, and_parts, is_met_at, IsTied, length-set, one_if, HasEndedMark, owed_at, owed_fork, times_walked, beq, eqb, List, [], ◌∷◌, length, map, list_all, set, None, Some, Option, IfSome, if◌then◌else◌, ◌==◌, inl, inr, refl, sym, ap, ◌∙◌, arith, cases_Bool, eqb-true, nat_tests, sum_by, sum_by-cons, Fork, ForkId, ForkRecord, ForkBook, IsBook, EachIdOnce, EndsAreSlots, Onward, behind, book_with_fork, first_id, is_end, is_in_use, other_end, reached, record_of, slot_list, end_with, holder, dirtied, option_map, CanCount, CanPut, Count, IsCounted, IsTiedBut, IsSeenAlike, IsSided, both_recounted, recounted, count_at, count_in, is_marked, is_reached, is_reached_at, lacks, relieved, seen_book, seen_record, times_reached, walked_at, false≢true}
use Rattle.std.proofs.Common.{set-set}
use Rattle.dine_forks.specs.declared.record.At.{At}
use Rattle.dine_forks.specs.Edges.{is_first}
use Rattle.dine_forks.specs.Sending.{after}
use Rattle.dine_forks.specs.declared.sent.Sent.TheVariants as sent
use Rattle.dine_forks.specs.declared.rules.Reach.{Reach}
use Rattle.dine_forks.specs.declared.rules.Reach.TheVariants as reach
use Rattle.dine_forks.proofs.Marking.{marked-other, marked-same, put-seen}
use Rattle.dine_forks.proofs.Seen.{next-seen, once-seen, record_of_seen, seen_all, seen-same, slot_list_seen}
use Rattle.dine_forks.proofs.Counted.{end_in, end_of, few-in, some-at}
use Rattle.dine_forks.proofs.Tied.{apart, found-alike, own-is, put-back, sided, tied-alike, within}
use Rattle.dine_forks.proofs.Walks.{IsChanging, changing-on, found-used, rest_of, sum_by-le, with_fork-same}

-- ---- a record that a slot is at

-- the slot is the first end of it or the second, and the other end is the other
pub end-is : (slot : ℕ) (r : ForkRecord) (first : Bool) → is_end slot r ≡ true → first ≡ eqb slot r.first → (slot ≡ end_of first r) × (other_end slot r ≡ end_of (not first) r)
end-is slot r true end is = (eqb-true slot r.first (sym is), rw (sym is) refl)
end-is slot r false end is = (grind (arith, eqb-true slot r.second), rw (sym is) refl)

module _ (at : At) (lists : ForkBook) (counts : List Count) (marks lacking : List Bool) (sound : IsBook lists) (h : CanPut at lists counts marks lacking) where
  -- which end the slot is
  abbrev own_end : Bool
  own_end = is_first at.end

  -- both ends of the record
  ends : (at.slot ≡ end_of own_end at.visited) × (other_end at.slot at.visited ≡ end_of (not own_end) at.visited)
  ends = end-is at.slot at.visited own_end h.listed.ends h.end

  -- a fork at the side of the record's is counted at an end
  counted-at : (first : Bool) (had : Fork) → IsSided had at.visited.fork → IsCounted first (end_of first at.visited) had counts
  counted-at first had side =
      let found = h.listed.found in let same = sided first had at.visited.fork side in
      let is = own-is lists at.id at.visited first counts marks (set lacking at.slot false) sound found h.tied in
      let some = some-at lists at.id at.visited sound found first in let few = few-in lists sound (end_of first at.visited) in
      record {
        within = (within lists at.id at.visited first counts marks (set lacking at.slot false) sound found h.tied).0;
        lacked = rw (same.0, is) some.0;
        asked = rw (same.1, is) some.1;
        few = rw is few.0;
        few_asked = rw is few.1;
      }

  -- so it is at both
  pub can-count : (had : Fork) → IsSided had at.visited.fork → CanCount own_end at.slot (other_end at.slot at.visited) had counts
  can-count had side = rw (ends.1, ends.0) record {
    here = counted-at own_end had side;
    there = counted-at (not own_end) had side;
    apart = apart lists at.id at.visited own_end counts marks (set lacking at.slot false) sound h.listed.found h.tied;
  }

  -- the other end is a slot
  pub other-in : other_end at.slot at.visited < lists.slots
  other-in = rw ends.1 (end_in lists at.id at.visited sound h.listed.found (not own_end))

  -- ---- another fork, once the end that is to hold it is ready

  module _ (new : ForkBook) (new_marks : List Bool) (same : IsSeenAlike lists marks new new_marks) (new_sound : IsBook new) (fork : Fork) where
    -- the record is there
    pub put-used : is_in_use at.id new.records ≡ true
    put-used = let (x, found, _, _, _) = found-alike lists new marks new_marks at.id at.visited same h.listed.found in found-used at.id new.records x found

    -- its fork is seen where it is put
    pub put-seen-at : (fork.dirty ≡ false → is_marked new_marks (end_with fork at.visited) ≡ false) → seen_book new_marks (book_with_fork at.id fork new) ≡ book_with_fork at.id fork (seen_book marks lists)
    put-seen-at ready =
        let (x, found, first_is, second_is, _) = found-alike lists new marks new_marks at.id at.visited same h.listed.found in
        let free : fork.dirty ≡ false → is_marked new_marks (end_with fork x) ≡ false = λ clean. rw (first_is, second_is) (ready clean) in
        (λ i. record new { records = put-seen new_marks at.id fork new.records x new_sound.each_id_once found free i })
        ∙ ap (book_with_fork at.id fork) same.same

    -- and all is tied again
    pub put-tied : (had : Fork) → IsSided had at.visited.fork → (gained : Bool) → (lacks (not own_end) had ≡ true → lacks (not own_end) fork ≡ false → gained ≡ true)
        → let other = other_end at.slot at.visited in let after = recounted (not own_end) had fork (count_at counts other) in
        IsTiedBut at.slot (book_with_fork at.id fork new) (both_recounted own_end at.slot other had fork counts) new_marks (relieved other gained after.lacked lacking)
    put-tied had sides gained gains =
        let (x, found, first_is, second_is, side) = found-alike lists new marks new_marks at.id at.visited same h.listed.found in
        let near : end_of own_end x ≡ at.slot = both own_end x first_is second_is ∙ sym ends.0 in
        let far : end_of (not own_end) x ≡ other_end at.slot at.visited = both (not own_end) x first_is second_is ∙ sym ends.1 in
        let before : IsTiedBut (end_of own_end x) new counts new_marks lacking = rw near (tied-alike lists new counts marks new_marks (set lacking at.slot false) same h.tied) in
        let there : IsSided had x.fork = record { at = sides.at ∙ side.at; token = sides.token ∙ side.token } in
        rw (near, far) at (put-back new at.id x own_end counts new_marks lacking new_sound found before fork had there gained gains)
      where
        -- the ends are the same
        both : (b : Bool) (x : ForkRecord) → x.first ≡ at.visited.first → x.second ≡ at.visited.second → end_of b x ≡ end_of b at.visited
        both true x f s = f
        both false x f s = s

-- what is there is seen as it is seen
pub seen-alike : (lists : ForkBook) (marks : List Bool) → IsSeenAlike lists marks lists marks
seen-alike lists marks = record { slots = refl; marked = refl; same = refl; counted = λ s. refl }

-- a fork that gets dirty stays in each count
recount-same : (first : Bool) (had : Fork) (c : Count) → one_if (lacks first had) ≤ c.lacked → one_if (is_asked first had) ≤ c.asked → recounted first (had) (dirtied had) c ≡ c
recount-same first had c lacked asked = grind (arith)

-- the numbers of a slot are changed one behind the other, and then those of the other end
pub recounts : (counts : List Count) (slot other : ℕ) (first : Bool) (had fork : Fork) (a l m : ℕ) (x : Count) → CanCount first slot other had counts → a ≡ (recounted first had fork (count_at counts slot)).asked → l ≡ one_if (lacks first had) → m ≡ one_if (lacks first fork)
    → let one = set counts slot record { lacked = (count_at counts slot).lacked; asked = a } in let two = set one slot record { lacked = (count_at one slot).lacked - l + m; asked = (count_at one slot).asked } in
    x ≡ recounted (not first) had fork (count_at two other) → set two other x ≡ both_recounted first slot other had fork counts
recounts counts slot other first had fork a l m x can asked was is same =
    let half : Count = record { lacked = (count_at counts slot).lacked; asked = a } in let all = recounted first had fork (count_at counts slot) in
    let both = ap (λ (k : Count). set (set counts slot half) slot record { lacked = k.lacked - l + m; asked = k.asked }) (get_or-set_same counts slot half no_count can.here.within) ∙ set-set counts slot half record { lacked = half.lacked - l + m; asked = a } ∙ rw (asked, was, is) refl in
    λ j. set (both j) other ((same ∙ ap (λ (cs : List Count). recounted (not first) had fork (count_at cs other)) both ∙ ap (recounted (not first) had fork) (get_or-set_other counts slot other all no_count can.apart)) j)

-- so both counts stay
pub both-same : (first : Bool) (slot other : ℕ) (had : Fork) (counts : List Count) → CanCount first slot other had counts → both_recounted first slot other had (dirtied had) counts ≡ counts
both-same first slot other had counts h =
    rw (recount-same first had (count_at counts slot) h.here.lacked h.here.asked, recount-same (not first) had (count_at counts other) h.there.lacked h.there.asked, set-get_or counts slot no_count, set-get_or counts other no_count) refl

-- a fork that is seen is at the side where it is written
pub seen-sided : (marks : List Bool) (r : ForkRecord) → IsSided (seen_record marks r).fork r.fork
seen-sided marks r = elim (cases_Bool (is_marked marks (holder r))) [ inl e ↦ rw e record { at = refl; token = refl } | inr e ↦ rw e record { at = refl; token = refl } ]

-- who has a fork that is seen clean has no mark, whatever token is sent then
pub seen-clean : (marks : List Bool) (r : ForkRecord) → (seen_record marks r).fork.dirty ≡ false → is_marked marks (end_with (after sent.Token (seen_record marks r).fork) r) ≡ false
seen-clean marks r clean = elim (cases_Bool (is_marked marks (holder r))) [ inl e ↦ absurd (false≢true (sym clean ∙ rw e refl)) | inr e ↦ rw e e ]

-- a slot that lacked a fork and has it gained it from the other end
pub gains-is : (first : Bool) (had fork : Fork) → lacks (not first) had ≡ true → lacks (not first) fork ≡ false → beq had.at_first first ≡ true
gains-is first had fork lacked has = grind (arith, beq)

-- ---- one record, seen

-- a walk looks at no dirt to know what it has to do with
dirt-unreached : (r : Reach) (first : Bool) (f : Fork) → is_reached r first (dirtied f) ≡ is_reached r first f
dirt-unreached reach.Lacked first f = refl
dirt-unreached reach.Asked first f = refl
dirt-unreached reach.All first f = refl

-- so a record that is seen is reached where the written one is
pub reached-seen : (reach : Reach) (slot : ℕ) (marks : List Bool) (r : ForkRecord) → is_reached_at reach slot (seen_record marks r) ≡ is_reached_at reach slot r
reached-seen reach slot marks r = seen-same (is_reached_at reach slot) marks r (dirt-unreached reach (eqb slot r.first) r.fork)

-- a walk has to do with a record that it reaches
times-hit : (owes : Bool) → one_if (owes || true) ≡ 1
times-hit true = refl
times-hit false = refl

module _ (owes : Bool) (reach : Reach) (forks : Bool → ℕ → Fork → Fork) (slot : ℕ) (marks : List Bool) (r : ForkRecord) where
  -- the rules are run at the fork that is seen of a record that is reached
  pub runs : (first : Bool) → first ≡ eqb slot r.first → is_reached reach first r.fork ≡ true
      → (owed_fork owes reach forks slot (seen_record marks r) ≡ forks first (other_end slot r) (seen_record marks r).fork) × (times_walked owes reach slot r ≡ 1)
  runs first is hit =
      let here : is_reached reach (eqb slot r.first) r.fork ≡ true = rw is at hit in
      let dirt = dirt-unreached reach (eqb slot r.first) r.fork ∙ here in
      rw is (elim (cases_Bool (is_marked marks (holder r))) [ inl m ↦ rw (m, dirt, here) (refl, times-hit owes) | inr m ↦ rw (m, here) (refl, times-hit owes) ])

  -- another gets dirty where that is owed
  pub owns : (first : Bool) → first ≡ eqb slot r.first → is_reached reach first r.fork ≡ false → owes ≡ true
      → (owed_fork owes reach forks slot (seen_record marks r) ≡ dirtied r.fork) × (times_walked owes reach slot r ≡ 1)
  owns first is hit owed =
      let here : is_reached reach (eqb slot r.first) r.fork ≡ false = rw is at hit in
      let dirt = dirt-unreached reach (eqb slot r.first) r.fork ∙ here in
      rw owed (elim (cases_Bool (is_marked marks (holder r))) [ inl m ↦ rw m (rw dirt refl, refl) | inr m ↦ rw m (rw here refl, refl) ])

  -- and else stays
  pub rests : (first : Bool) → first ≡ eqb slot r.first → is_reached reach first r.fork ≡ false → owes ≡ false
      → (owed_fork owes reach forks slot (seen_record marks r) ≡ (seen_record marks r).fork) × (times_walked owes reach slot r ≡ 0)
  rests first is hit owed =
      let here : is_reached reach (eqb slot r.first) r.fork ≡ false = rw is at hit in
      let dirt = dirt-unreached reach (eqb slot r.first) r.fork ∙ here in
      rw owed (elim (cases_Bool (is_marked marks (holder r))) [ inl m ↦ rw (m, dirt, here) (refl, refl) | inr m ↦ rw (m, here) (refl, refl) ])

-- the fork of a record that is seen, in its own place
pub kept-seen : (marks : List Bool) (book : ForkBook) (id : ForkId) (r : ForkRecord) → EachIdOnce book.records → record_of id book.records ≡ Some r → seen_book marks book ≡ book_with_fork id (seen_record marks r).fork (seen_book marks book)
kept-seen marks book id r once found =
    (λ i. record book { records = sym (with_fork-same id (seen_all marks book.records) (seen_record marks r) (once-seen marks book.records once) (record_of_seen marks id book.records ∙ ap (option_map (seen_record marks)) found)) i })

-- ---- the list of a slot

-- a record that a walk has nothing to do with stays
pub idle : (owes : Bool) (reach : Reach) (forks : Bool → ℕ → Fork → Fork) (slot : ℕ) (r : ForkRecord) → times_walked owes reach slot r ≡ 0 → owed_fork owes reach forks slot r ≡ r.fork
idle true reach forks slot r none = absurd (omega (arith, none))
idle false reach forks slot r none = elim (cases_Bool (is_reached_at reach slot r)) [ inl e ↦ absurd (let one : times_reached reach slot r ≡ 1 = rw e refl in omega (arith, one, none)) | inr e ↦ rw e refl ]

-- what a walk has to do with, as it is counted
pub reached-lacked : (slots slot : ℕ) (rs : List ForkRecord) → EndsAreSlots slots rs → sum_by (times_reached reach.Lacked slot) (slot_list slot rs) ≡ (count_in rs slot).lacked
reached-lacked slots slot [] ends = refl
reached-lacked slots slot (r ∷ rs) ends = grind (arith, nat_tests, ends.0, reached-lacked slots slot rs ends.3, sum_by-cons (times_reached reach.Lacked slot))

-- so are those that it is asked for
pub reached-asked : (slots slot : ℕ) (rs : List ForkRecord) → EndsAreSlots slots rs → sum_by (times_reached reach.Asked slot) (slot_list slot rs) ≡ (count_in rs slot).asked
reached-asked slots slot [] ends = refl
reached-asked slots slot (r ∷ rs) ends = grind (arith, nat_tests, ends.0, reached-asked slots slot rs ends.3, sum_by-cons (times_reached reach.Asked slot))

-- where dirt is owed it has to do with all
pub walked-all : (reach : Reach) (slot : ℕ) (rs : List ForkRecord) → sum_by (times_walked true reach slot) rs ≡ length rs
walked-all reach slot [] = refl
walked-all reach slot (r ∷ rs) = grind (arith, walked-all reach slot rs, sum_by-cons (times_walked true reach slot) r rs)

-- and where it has to do with some records it has without the dirt, it has in any case
pub some-start : (reach : Reach) (slot : ℕ) (rs : List ForkRecord) (bare left : ℕ) (owes : Bool) → bare ≡ sum_by (times_walked false reach slot) (slot_list slot rs) → sum_by (times_walked owes reach slot) (slot_list slot rs) ≡ left
    → bare ≢ 0 → (next : Option ForkId) → IfSome next (λ _. 1 ≤ left)
some-start reach slot rs bare left owes all is some None = tt
some-start reach slot rs bare left false all is some (Some id) = omega (arith, all, is, some)
some-start reach slot rs bare left true all is some (Some id) =
    let most = sum_by-le (times_walked false reach slot) 1 (slot_list slot rs) (λ r. elim (cases_Bool (is_reached_at reach slot r)) [ inl e ↦ rw e (omega arith) | inr e ↦ rw e (omega arith) ]) in
    let each = walked-all reach slot (slot_list slot rs) in omega (arith, all, is, some, most, each)

-- a walk with nothing to do changes nothing
pub walk-idle : (reach : Reach) (forks : Bool → ℕ → Fork → Fork) (slot : ℕ) (rs : List ForkRecord) → sum_by (times_reached reach slot) (slot_list slot rs) ≡ 0 → map (walked_at reach forks slot) rs ≡ rs
walk-idle reach forks slot [] none = refl
walk-idle reach forks slot (r ∷ rs) none = elim (cases_Bool (is_end slot r)) [
  | inr e ↦ rw e (ap (λ t. r ∷ t) (walk-idle reach forks slot rs (rw e at none)))
  | inl e ↦
      let sum = sym (sum_by-cons (times_reached reach slot) r (slot_list slot rs)) ∙ (rw e at none) in
      let here : times_reached reach slot r ≡ 0 = omega (arith, sum) in let there : sum_by (times_reached reach slot) (slot_list slot rs) ≡ 0 = omega (arith, sum) in
      rw (e, idle false reach forks slot r here, walk-idle reach forks slot rs there) refl
]

-- what a walk has to do with is seen
pub walked-seen : (owes : Bool) (reach : Reach) (slot : ℕ) (marks : List Bool) (r : ForkRecord) → times_walked owes reach slot (seen_record marks r) ≡ times_walked owes reach slot r
walked-seen owes reach slot marks r = ap (λ b. one_if (owes || b)) (reached-seen reach slot marks r)

-- so is all of it
walked-all-seen : (owes : Bool) (reach : Reach) (slot : ℕ) (marks : List Bool) (rs : List ForkRecord) → sum_by (times_walked owes reach slot) (seen_all marks rs) ≡ sum_by (times_walked owes reach slot) rs
walked-all-seen owes reach slot marks [] = refl
walked-all-seen owes reach slot marks (r ∷ rs) =
    sum_by-cons (times_walked owes reach slot) (seen_record marks r) (seen_all marks rs) ∙ rw (walked-seen owes reach slot marks r, walked-all-seen owes reach slot marks rs) (sym (sum_by-cons (times_walked owes reach slot) r rs))

-- it is as many records as are counted
pub walked-start : (owes : Bool) (reach : Reach) (slot left : ℕ) (marks : List Bool) (book : ForkBook) → sum_by (times_walked owes reach slot) (slot_list slot book.records) ≡ left → sum_by (times_walked owes reach slot) (slot_list slot (seen_all marks book.records)) ≡ left
walked-start owes reach slot left marks book is = ap (sum_by (times_walked owes reach slot)) (slot_list_seen marks slot book.records) ∙ walked-all-seen owes reach slot marks (slot_list slot book.records) ∙ is

-- ---- the mark of the slot has ended

module _ (slot : ℕ) (marks : List Bool) (below : slot < length marks) (was : is_marked marks slot ≡ true) where
  -- what the rules make of a record by what was seen is made of what is seen now, where the forks of the slot get dirty
  owed-one : (forks : Bool → ℕ → Fork → Fork) (r : ForkRecord) → r.first ≢ r.second → owed_at true reach.Lacked forks slot (seen_record (set marks slot false) r) ≡ walked_at reach.Lacked forks slot (seen_record marks r)
  owed-one forks r differ = elim (cases_Bool (eqb slot (holder r))) [
    | inl e ↦ rw (marked-same marks slot (holder r) false below e, subst (λ k. is_marked marks k ≡ true) (eqb-true slot (holder r) e) was) (grind (arith, nat_tests, e, differ))
    | inr e ↦ rw (marked-other marks slot (holder r) false e) (elim (cases_Bool (is_marked marks (holder r))) [ inl m ↦ rw m (grind (arith, nat_tests, e, differ)) | inr m ↦ rw m (grind (arith, nat_tests, e, differ)) ])
  ]

  -- the rules meet the forks that they met
  met-one : (meets : Bool → Fork → Bool) (r : ForkRecord) → r.first ≢ r.second → is_met_at reach.Lacked meets slot (seen_record marks r) ≡ true → is_end slot r ≡ true → is_met_at reach.Lacked meets slot (seen_record (set marks slot false) r) ≡ true
  met-one meets r differ met end = elim (cases_Bool (eqb slot (holder r))) [
    | inl e ↦ rw (marked-same marks slot (holder r) false below e) (grind (arith, nat_tests, e, differ, end))
    | inr e ↦ rw (marked-other marks slot (holder r) false e) met
  ]

  -- so do all
  owed-all : (forks : Bool → ℕ → Fork → Fork) (slots : ℕ) (rs : List ForkRecord) → EndsAreSlots slots rs → map (owed_at true reach.Lacked forks slot) (seen_all (set marks slot false) rs) ≡ map (walked_at reach.Lacked forks slot) (seen_all marks rs)
  owed-all forks slots [] ends = refl
  owed-all forks slots (r ∷ rs) ends = rw (owed-one forks r ends.0, owed-all forks slots rs ends.3) refl

  -- and all are met
  met-all : (meets : Bool → Fork → Bool) (slots : ℕ) (rs : List ForkRecord) → EndsAreSlots slots rs → list_all (is_met_at reach.Lacked meets slot) (slot_list slot (seen_all marks rs)) ≡ true → list_all (is_met_at reach.Lacked meets slot) (slot_list slot (seen_all (set marks slot false) rs)) ≡ true
  met-all meets slots [] ends met = refl
  met-all meets slots (r ∷ rs) ends met =
      let here : is_end slot (seen_record marks r) ≡ is_end slot r = seen-same (is_end slot) marks r refl in
      let now : is_end slot (seen_record (set marks slot false) r) ≡ is_end slot r = seen-same (is_end slot) (set marks slot false) r refl in
      elim (cases_Bool (is_end slot r)) [
        | inr e ↦ rw (now ∙ e) (met-all meets slots rs ends.3 (rw (here ∙ e) at met))
        | inl e ↦
            let (one, others) = and_parts _ _ (rw (here ∙ e) at met) in
            rw (now ∙ e, met-one meets r ends.0 one e, met-all meets slots rs ends.3 others) refl
      ]

module _ (r : Reach) (slot : ℕ) (book : ForkBook) (old_marks marks : List Bool) (owes : Bool) (h : HasEndedMark r slot old_marks marks owes) (below : slot < length old_marks) (sound : IsBook book) where
  -- a walk makes of what is seen now what the rules make of what was seen
  pub ended-walked : (forks : Bool → ℕ → Fork → Fork) → map (owed_at owes r forks slot) (seen_all marks book.records) ≡ map (walked_at r forks slot) (seen_all old_marks book.records)
  ended-walked forks = elim (cases_Bool owes) [
    | inl e ↦ rw (e, h.asks e, h.ended e) (owed-all slot old_marks below (h.was e) forks book.slots book.records sound.ends_are_slots)
    | inr e ↦ rw (e, h.same e) refl
  ]

  -- the rules meet what they met
  pub ended-met : (meets : Bool → Fork → Bool) → list_all (is_met_at r meets slot) (slot_list slot (seen_all old_marks book.records)) ≡ true → list_all (is_met_at r meets slot) (slot_list slot (seen_all marks book.records)) ≡ true
  ended-met meets met = elim (cases_Bool owes) [
    | inl e ↦ rw (h.asks e, h.ended e) (met-all slot old_marks below (h.was e) meets book.slots book.records sound.ends_are_slots (rw (h.asks e) at met))
    | inr e ↦ rw (h.same e) met
  ]

  -- all is tied as it was
  pub ended-tied : (counts : List Count) (lacking : List Bool) → IsTied book counts old_marks lacking → IsTied book counts marks lacking
  ended-tied counts lacking t = record {
    places = t.places;
    counted = t.counted;
    marked = elim (cases_Bool owes) [ inl e ↦ rw (h.ended e) (length-set old_marks slot false ∙ t.marked) | inr e ↦ rw (h.same e) t.marked ];
    listed = t.listed;
    lack = t.lack;
  }

-- ---- a walk's end

-- what passes in each record passes in each that a walk goes on to
pub all-goes_on : (p : ForkRecord → Bool) (left : ℕ) (next : Option ForkId) (rs : List ForkRecord) → list_all p (rest_of next rs) ≡ true → list_all p (rest_of (if left == 0 then None else next) rs) ≡ true
all-goes_on p left next rs all = elim (cases_Bool (left == 0)) [ inl e ↦ rw e refl | inr e ↦ rw e all ]

-- ---- a step

-- the record that a walk is at, as it is seen
pub found-seen : (marks : List Bool) (id : ForkId) (rs : List ForkRecord) (r : ForkRecord) → record_of id rs ≡ Some r → record_of id (seen_all marks rs) ≡ Some (seen_record marks r)
found-seen marks id rs r found = record_of_seen marks id rs ∙ ap (option_map (seen_record marks)) found

-- a step goes on behind the record that it has changed, by what is seen
pub seen-on : (slot : ℕ) (change : ForkRecord → Fork) (all : ForkRecord → ForkRecord) (id : ForkId) (next next' : Option ForkId) (marks marks' : List Bool) (book book' start : ForkBook) (r : ForkRecord) (onward : Onward) → IsChanging slot change all next (seen_book marks book) start → next ≡ Some id → record_of id book.records ≡ Some r
    → seen_book marks' book' ≡ book_with_fork id (change (seen_record marks r)) (seen_book marks book) → next' ≡ reached book' onward → reached book onward ≡ first_id (behind id (slot_list slot book.records))
    → IsChanging slot change all next' (seen_book marks' book') start × (rest_of next (slot_list slot (seen_all marks book.records)) ≡ seen_record marks r ∷ rest_of next' (slot_list slot (seen_all marks' book'.records)))
seen-on slot change all id next next' marks marks' book book' start r onward h here found written reaches follows =
    changing-on slot change all id next next' (seen_book marks book) (seen_book marks' book') start (seen_record marks r) h here (found-seen marks id book.records r found) written
    (reaches ∙ ap (λ (b : ForkBook). reached b onward) written ∙ follows ∙ sym (next-seen marks slot id book.records))
