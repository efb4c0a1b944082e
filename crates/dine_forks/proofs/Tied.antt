-- What is kept of the slots beside the records: counts, marks, and the set of who lacks a fork. It stays true as these change.
use Rattle.dine_forks.proofs.Words.{◌⊎◌, filter, list_all, ◌≡◌, ℕ, Bool, ◌<◌, ◌≤◌, true, false, eqb, ◌==◌, ◌≢◌, not, if◌then◌else◌, List, [], ◌∷◌, ◌++◌, length, map, replicate, set, Some, inl, inr, refl, sym, subst, ap, ◌∙◌, arith, zero, suc, cases_Bool, eqb-true, eqb-false, ne_eqb, false≢true, nat_tests, length-set, set_comm, get_or-set_same, get_or-set_other, length-replicate, is_in_use, Fork, ForkId, ForkRecord, ForkBook, IsBook, EndsAreSlots, empty_book, holds, is_end, record_of, slot_list, with_fork, without, book_with_fork, CanAdd, CanRemove, Count, IsSided, IsTied, asker_set, counted_less, counted_more, IsTiedBut, IsSeenAlike, both_recounted, recounted, count_at, count_in, count_with, count_without, is_asked, is_member, kept_set, lacks, no_count, one_if, relieved, non_holder, is_holder, is_non_holder, is_asked_of, dirtied_record, is_marked, own_dirtied_at, holder, length-map, seen_record}
use Rattle.dine_forks.specs.declared.rules.Reach.{Reach}
use Rattle.dine_forks.specs.declared.rules.Reach.TheVariants as reach
use Rattle.dine_forks.proofs.Records.{pass-without, with_this}
use Rattle.dine_forks.proofs.Seen.{filter-map_same, is_in_use-seen, seen_all, seen-same, told_seen}
use Rattle.dine_forks.proofs.CallerLemmas.{found_if_in_use, found-used}
use Rattle.dine_forks.proofs.Marking.{unmark_seen}
use Rattle.dine_forks.proofs.Counted.{end_of, ends-differ, same-count, recounted_at, count-put, count-append, count-gone, ends_in, end_in, some-at, few-in, without-le, put-end}

-- ---- all slots

-- a new book is tied
pub tied-empty : (slots room : ℕ) → IsTied (empty_book slots room) (replicate slots no_count) (replicate slots false) (replicate slots false)
tied-empty slots room = record {
  places = length-replicate slots no_count;
  counted = λ s below. none-at slots s;
  marked = length-replicate slots false;
  listed = length-replicate slots false;
  lack = λ s is. absurd (false≢true (sym (none-in slots s) ∙ is));
}
  where
    -- no slot lacks a fork
    none-at : (n s : ℕ) → count_at (replicate n no_count) s ≡ count_in [] s
    none-at zero s = refl
    none-at (suc n) zero = refl
    none-at (suc n) (suc s) = none-at n s

    -- and none is in the set
    none-in : (n s : ℕ) → is_member (replicate n false) s ≡ false
    none-in zero s = refl
    none-in (suc n) zero = refl
    none-in (suc n) (suc s) = none-in n s

-- what is tied is tied to a book that is seen alike
pub tied-alike : (old new : ForkBook) (counts : List Count) (old_marks marks lacking : List Bool) → IsSeenAlike old old_marks new marks → IsTied old counts old_marks lacking → IsTied new counts marks lacking
tied-alike old new counts old_marks marks lacking same h = record {
  places = h.places ∙ sym same.slots;
  counted = λ s below. h.counted s (rw (sym same.slots) below) ∙ sym (same.counted s);
  marked = same.marked ∙ h.marked ∙ sym same.slots;
  listed = h.listed ∙ sym same.slots;
  lack = h.lack;
}

-- the slot has all its forks where it lacks none
pub none_lacked : (slots slot : ℕ) (rs : List ForkRecord) → EndsAreSlots slots rs → ((count_in rs slot).lacked == 0) ≡ list_all (holds slot) (slot_list slot rs)
none_lacked slots slot rs h = grind (arith, none_of_slot slots slot rs h, some_of_slot slots slot rs h)
  where
    -- it lacks none where it has all
    none_of_slot : (slots slot : ℕ) (rs : List ForkRecord) → EndsAreSlots slots rs → list_all (holds slot) (slot_list slot rs) ≡ true → length (filter (is_non_holder slot) rs) ≡ 0
    none_of_slot slots slot [] h all = refl
    none_of_slot slots slot (x ∷ xs) h all = grind (arith, none_of_slot slots slot xs h.3)

    -- and some where it hasn't
    some_of_slot : (slots slot : ℕ) (rs : List ForkRecord) → EndsAreSlots slots rs → list_all (holds slot) (slot_list slot rs) ≡ false → 1 ≤ length (filter (is_non_holder slot) rs)
    some_of_slot slots slot [] h lacks = absurd (false≢true (sym lacks))
    some_of_slot slots slot (x ∷ xs) h lacks = grind (arith, some_of_slot slots slot xs h.3)

-- a member is a place of the set
member-within : (lacking : List Bool) (s : ℕ) → is_member lacking s ≡ true → s < length lacking
member-within [] s is = absurd (false≢true is)
member-within (x ∷ xs) zero is = omega arith
member-within (x ∷ xs) (suc s) is = let below = member-within xs s is in omega arith

-- so a member of the set hasn't all of its forks
pub lacks-some : (book : ForkBook) (counts : List Count) (marks lacking : List Bool) (slot : ℕ) → IsBook book → IsTied book counts marks lacking → is_member lacking slot ≡ true → list_all (holds slot) (slot_list slot book.records) ≡ false
lacks-some book counts marks lacking slot sound h is =
    let below : slot < book.slots = rw (← h.listed) (member-within lacking slot is) in
    let some = rw (h.counted slot below) at (h.lack slot is) in
    sym (none_lacked book.slots slot book.records sound.ends_are_slots) ∙ ne_eqb (count_in book.records slot).lacked 0 (λ none. let k : 1 ≤ 0 = rw none at some in omega arith)

-- ---- a record whose fork another takes the place of

-- such forks are counted alike
pub sided : (first : Bool) (a b : Fork) → IsSided a b → (lacks first a ≡ lacks first b) × (is_asked first a ≡ is_asked first b)
sided first a b h = (rw h.at refl, rw (h.at, h.token) refl)

-- a slot that gained no fork lacks as many at least
pub not-gained : (first : Bool) (had fork : Fork) (c : Count) (gained : Bool) → gained ≡ false → (lacks (not first) had ≡ true → lacks (not first) fork ≡ false → gained ≡ true) → one_if (lacks (not first) had) ≤ c.lacked → 1 ≤ c.lacked
    → 1 ≤ (count_with (not first) fork (count_without (not first) had c)).lacked
not-gained first had fork c gained none is some one = elim (cases_Bool (lacks (not first) had)) [
  | inr e ↦ rw e (omega (arith, one))
  | inl e ↦ elim (cases_Bool (lacks (not first) fork)) [ inl f ↦ rw (e, f) (omega arith) | inr f ↦ absurd (false≢true (sym none ∙ is e f)) ]
]

-- ---- the set

-- a set with a slot taken out has as many places
pub listed-relieved : (lacking : List Bool) (s : ℕ) (gained : Bool) (lacked : ℕ) → length (relieved s gained lacked lacking) ≡ length lacking
listed-relieved lacking s gained lacked = elim (cases_Bool gained) [
  | inr e ↦ rw e refl
  | inl e ↦ elim (cases_Bool (lacked == 0)) [ inl f ↦ rw (e, f) (length-set lacking s false) | inr f ↦ rw (e, f) refl ]
]

-- another slot is in it as before
pub relieved-other : (lacking : List Bool) (slot s : ℕ) (gained : Bool) (lacked : ℕ) → s ≢ slot → is_member (relieved slot gained lacked lacking) s ≡ is_member lacking s
relieved-other lacking slot s gained lacked apart = elim (cases_Bool gained) [
  | inr e ↦ rw e refl
  | inl e ↦ elim (cases_Bool (lacked == 0)) [ inl f ↦ rw (e, f) (get_or-set_other lacking slot s false false apart) | inr f ↦ rw (e, f) refl ]
]

-- a slot that is in it lacks some, or it was in it and gained none
pub relieved-same : (lacking : List Bool) (slot : ℕ) (gained : Bool) (lacked : ℕ) → slot < length lacking → is_member (relieved slot gained lacked lacking) slot ≡ true → (1 ≤ lacked) ⊎ ((gained ≡ false) × (is_member lacking slot ≡ true))
relieved-same lacking slot gained lacked within is = elim (cases_Bool gained) [
  | inr e ↦ inr (e, rw e at is)
  | inl e ↦ elim (cases_Bool (lacked == 0)) [
    | inl f ↦ absurd (false≢true (sym (get_or-set_same lacking slot false false within) ∙ (rw (e, f) at is)))
    | inr f ↦ inl (let some = eqb-false lacked 0 f in grind (arith, some))
  ]
]

-- ---- two counts that change at once

-- the counts once two slots have others
pub set-both : (counts : List Count) (i j : ℕ) (a b : Count) → i < length counts → j < length counts → i ≢ j → (s : ℕ) → count_at (set (set counts i a) j b) s ≡ (if s == i then a else if s == j then b else count_at counts s)
set-both counts i j a b one two differ s = elim (cases_Bool (eqb s i)) [
  | inl e ↦ rw (e, eqb-true s i e) (get_or-set_other (set counts i a) j i b no_count differ ∙ get_or-set_same counts i a no_count one)
  | inr e ↦ elim (cases_Bool (eqb s j)) [
    | inl f ↦ rw (e, f, eqb-true s j f) (get_or-set_same (set counts i a) j b no_count (rw (length-set counts i a) two))
    | inr f ↦ rw (e, f) (get_or-set_other (set counts i a) j s b no_count (eqb-false s j f) ∙ get_or-set_other counts i s a no_count (eqb-false s i e))
  ]
]

-- ---- a fork takes the place of another, of a record whose one end is out of the set

-- a set that another slot leaves is the same where the slot is taken out before or after
relieved-out : (lacking : List Bool) (slot other : ℕ) (gained : Bool) (lacked : ℕ) → other ≢ slot → relieved other gained lacked (set lacking slot false) ≡ set (relieved other gained lacked lacking) slot false
relieved-out lacking slot other gained lacked apart = elim (cases_Bool gained) [
  | inr e ↦ rw e refl
  | inl e ↦ elim (cases_Bool (lacked == 0)) [ inl f ↦ rw (e, f) (set_comm lacking slot other false false (λ same. apart (sym same))) | inr f ↦ rw (e, f) refl ]
]

-- a record of the book, one end of it and the other
module _ (book : ForkBook) (id : ForkId) (r : ForkRecord) (first : Bool) (counts : List Count) (marks lacking : List Bool) (sound : IsBook book) (found : record_of id book.records ≡ Some r) (h : IsTied book counts marks lacking) where
  -- both ends have counts
  pub within : (end_of first r < length counts) × (end_of (not first) r < length counts)
  within = (rw h.places (end_in book id r sound found first), rw h.places (end_in book id r sound found (not first)))

  -- the other end is another slot
  pub apart : end_of (not first) r ≢ end_of first r
  apart = ends-differ first r (ends_in book id r sound found).differ

  -- the counts are those of the records
  pub own-is : count_at counts (end_of first r) ≡ count_in book.records (end_of first r)
  own-is = h.counted (end_of first r) (end_in book id r sound found first)

  -- at both ends
  pub other-is : count_at counts (end_of (not first) r) ≡ count_in book.records (end_of (not first) r)
  other-is = h.counted (end_of (not first) r) (end_in book id r sound found (not first))

  module _ (fork had : Fork) (side : IsSided had r.fork) (gained : Bool) (gains : lacks (not first) had ≡ true → lacks (not first) fork ≡ false → gained ≡ true) (out : is_member lacking (end_of first r) ≡ false) where
    -- the count of the end, with another fork in place of that one
    abbrev now : Count
    now = recounted first had fork (count_at counts (end_of first r))

    -- that of the other end
    abbrev others : Count
    others = recounted (not first) had fork (count_at counts (end_of (not first) r))

    -- both are those of the records
    now-is : now ≡ count_in (with_fork id fork book.records) (end_of first r)
    now-is =
        let near = sided first had r.fork side in
        rw (near.0, near.1, own-is) (sym (put-end book.records id fork r first sound.each_id_once found (ends_in book id r sound found).differ))

    -- so is that of the other end
    others-is : others ≡ count_in (with_fork id fork book.records) (end_of (not first) r)
    others-is =
        let far = sided (not first) had r.fork side in
        rw (far.0, far.1, other-is) (sym (put-end book.records id fork r (not first) sound.each_id_once found (ends_in book id r sound found).differ))

    -- what a slot has then
    after-is : (s : ℕ) → count_at (both_recounted first (end_of first r) (end_of (not first) r) had fork counts) s ≡ (if s == end_of first r then now else if s == end_of (not first) r then others else count_at counts s)
    after-is s = set-both counts (end_of first r) (end_of (not first) r) now others within.0 within.1 (λ same. apart (sym same)) s

    -- each slot has its count
    counted-back : (s : ℕ) → s < book.slots → count_at (both_recounted first (end_of first r) (end_of (not first) r) had fork counts) s ≡ count_in (with_fork id fork book.records) s
    counted-back s below = after-is s ∙ elim (cases_Bool (eqb s (end_of first r))) [
      | inl e ↦ rw (e, eqb-true s (end_of first r) e) now-is
      | inr e ↦ elim (cases_Bool (eqb s (end_of (not first) r))) [
        | inl f ↦ rw (e, f, eqb-true s (end_of (not first) r) f) others-is
        | inr f ↦ rw (e, f) (h.counted s below ∙ sym (count-put book.records id fork r first sound.each_id_once found (ends_in book id r sound found).differ s ∙ rw (e, f) refl))
      ]
    ]

    -- each member of the set lacks a fork
    lack-back : (s : ℕ) → is_member (relieved (end_of (not first) r) gained others.lacked lacking) s ≡ true → 1 ≤ (count_at (both_recounted first (end_of first r) (end_of (not first) r) had fork counts) s).lacked
    lack-back s in_it =
        let other = end_of (not first) r in let mine = end_of first r in
        let place : other < length lacking = rw h.listed (end_in book id r sound found (not first)) in
        rw (after-is s) (elim (cases_Bool (eqb s mine)) [
          | inl e ↦
              let is : is_member (relieved other gained others.lacked lacking) mine ≡ true = rw (eqb-true s mine e) at in_it in
              absurd (false≢true (sym out ∙ sym (relieved-other lacking other mine gained others.lacked (λ same. apart (sym same))) ∙ is))
          | inr e ↦ rw e (elim (cases_Bool (eqb s other)) [
            | inl f ↦
                let is : is_member (relieved other gained others.lacked lacking) other ≡ true = rw (eqb-true s other f) at in_it in
                rw f (elim (relieved-same lacking other gained others.lacked place is) [
                  | inl some ↦ some
                  | inr kept ↦
                      let far = sided (not first) had r.fork side in
                      let some : one_if (lacks (not first) had) ≤ (count_at counts other).lacked = omega (arith, ap one_if far.0, ap (λ (c : Count). c.lacked) other-is, (some-at book id r sound found (not first)).0) in
                      not-gained first had fork (count_at counts other) gained kept.0 gains some (h.lack other kept.1)
                ])
            | inr f ↦ rw f (h.lack s (sym (relieved-other lacking other s gained others.lacked (eqb-false s other f)) ∙ in_it))
          ])
        ])

    -- so all is tied again
    pub put-out : IsTied (book_with_fork id fork book) (both_recounted first (end_of first r) (end_of (not first) r) had fork counts) marks (relieved (end_of (not first) r) gained others.lacked lacking)
    put-out =
        let other = end_of (not first) r in let mine = end_of first r in
        record {
          places = length-set (set counts mine now) other others ∙ length-set counts mine now ∙ h.places;
          counted = counted-back;
          marked = h.marked;
          listed = listed-relieved lacking other gained others.lacked ∙ h.listed;
          lack = lack-back;
        }

-- so it is where the slot stays in the set until its walk ends
pub put-back : (book : ForkBook) (id : ForkId) (r : ForkRecord) (first : Bool) (counts : List Count) (marks lacking : List Bool) (sound : IsBook book) (found : record_of id book.records ≡ Some r)
    → IsTiedBut (end_of first r) book counts marks lacking
    → (fork had : Fork) → IsSided had r.fork → (gained : Bool) → (lacks (not first) had ≡ true → lacks (not first) fork ≡ false → gained ≡ true)
    → let other = end_of (not first) r in let after = recounted (not first) had fork (count_at counts other) in
    IsTiedBut (end_of first r) (book_with_fork id fork book) (both_recounted first (end_of first r) other had fork counts) marks (relieved other gained after.lacked lacking)
put-back book id r first counts marks lacking sound found h fork had side gained gains =
    let mine = end_of first r in let other = end_of (not first) r in
    let after = recounted (not first) had fork (count_at counts other) in
    let place : mine < length lacking = rw (sym (length-set lacking mine false) ∙ h.listed) (end_in book id r sound found first) in
    subst (λ left. IsTied (book_with_fork id fork book) (both_recounted first mine other had fork counts) marks left)
    (relieved-out lacking mine other gained after.lacked (apart book id r first counts marks (set lacking mine false) sound found h))
    (put-out book id r first counts marks (set lacking mine false) sound found h fork had side gained gains (get_or-set_same lacking mine false false place))

-- ---- dirt that is written

-- it leaves as many records that pass a test which doesn't look at it
told-dirtied : (slot : ℕ) (test : ForkRecord → Bool) → ((r : ForkRecord) → test (dirtied_record r) ≡ test r) → (rs : List ForkRecord) → length (filter test (map (own_dirtied_at slot) rs)) ≡ length (filter test rs)
told-dirtied slot test same [] = refl
told-dirtied slot test same (x ∷ xs) = grind (arith, told-dirtied slot test same xs, own-told slot test same x)
  where
    -- the test doesn't tell the two records apart
    own-told : (slot : ℕ) (test : ForkRecord → Bool) → ((r : ForkRecord) → test (dirtied_record r) ≡ test r) → (r : ForkRecord) → test (own_dirtied_at slot r) ≡ test r
    own-told slot test same r = elim (cases_Bool (is_end slot r)) [
      | inr e ↦ rw e refl
      | inl e ↦ elim (cases_Bool (is_holder slot r)) [ inl h ↦ rw (e, h) (same r) | inr h ↦ rw (e, h) refl ]
    ]

-- a slot that lacks as many forks as it has records holds none, and none gets dirty
pub none-held : (slots slot : ℕ) (rs : List ForkRecord) → EndsAreSlots slots rs → length (slot_list slot rs) ≤ (count_in rs slot).lacked → map (own_dirtied_at slot) rs ≡ rs
none-held slots slot [] ends few = refl
none-held slots slot (x ∷ xs) ends few = grind (arith, nat_tests, ends.0, no-more slot xs, none-held slots slot xs ends.3)
  where
    -- it lacks no more
    no-more : (slot : ℕ) (rs : List ForkRecord) → (count_in rs slot).lacked ≤ length (slot_list slot rs)
    no-more slot [] = omega arith
    no-more slot (x ∷ xs) = grind (arith, nat_tests, no-more slot xs)

-- a slot whose mark was taken off, and the dirt written that it stood for, is seen as before
pub dirt-alike : (book new : ForkBook) (marks : List Bool) (slot : ℕ) → slot < book.slots → length marks ≡ book.slots → is_marked marks slot ≡ true → new ≡ record book { records = map (own_dirtied_at slot) book.records } → IsSeenAlike book marks new (set marks slot false)
dirt-alike book new marks slot below marked is written = rw written record {
  slots = refl;
  marked = length-set marks slot false;
  same = (λ i. record book { records = unmark_seen marks slot book.records (rw marked below) is i });
  counted = λ s. same-count _ _ (told-dirtied slot (is_non_holder s) (λ r. refl) book.records) (told-dirtied slot (is_asked_of s) (λ r. refl) book.records);
}

-- ---- a slot is taken out of the set, and settled

-- all is tied where a slot is taken out of the set
pub taken-out : (book : ForkBook) (counts : List Count) (marks lacking : List Bool) (slot : ℕ) → slot < book.slots → IsTied book counts marks lacking → IsTiedBut slot book counts marks lacking
taken-out book counts marks lacking slot below h = record {
  places = h.places;
  counted = h.counted;
  marked = h.marked;
  listed = length-set lacking slot false ∙ h.listed;
  lack = λ s is. elim (cases_Bool (eqb s slot)) [
    | inl e ↦ absurd (false≢true (sym (get_or-set_same lacking slot false false (rw h.listed below)) ∙ (rw (eqb-true s slot e) at is)))
    | inr e ↦ h.lack s (sym (get_or-set_other lacking slot s false false (eqb-false s slot e)) ∙ is)
  ];
}

-- a slot that lacks some forks may be in the set or not
may-be-in : (book : ForkBook) (counts : List Count) (marks lacking left : List Bool) (slot : ℕ) → IsTiedBut slot book counts marks lacking → ((count_at counts slot).lacked == 0) ≡ false
    → length left ≡ length lacking → ((s : ℕ) → s ≢ slot → is_member left s ≡ is_member lacking s) → IsTied book counts marks left
may-be-in book counts marks lacking left slot h some long others = record {
  places = h.places;
  counted = h.counted;
  marked = h.marked;
  listed = long ∙ sym (length-set lacking slot false) ∙ h.listed;
  lack = λ s is. elim (cases_Bool (eqb s slot)) [
    | inl f ↦ let one = eqb-false (count_at counts slot).lacked 0 some in rw (eqb-true s slot f) (grind (arith, one))
    | inr f ↦ h.lack s (get_or-set_other lacking slot s false false (eqb-false s slot f) ∙ sym (others s (eqb-false s slot f)) ∙ is)
  ];
}

-- it is out of the set where it lacks none
pub settled : (book : ForkBook) (counts : List Count) (marks lacking : List Bool) (slot : ℕ) (reach : Reach) → IsTiedBut slot book counts marks lacking → IsTied book counts marks (kept_set slot (count_at counts slot).lacked reach lacking)
settled book counts marks lacking slot r h = elim (cases_Bool ((count_at counts slot).lacked == 0)) [
  | inl e ↦ rw e h
  | inr e ↦ rw e (kept r e)
]
  where
    -- and else is put in by one who asks, and left as it was by others
    kept : (r : Reach) → ((count_at counts slot).lacked == 0) ≡ false → IsTied book counts marks (asker_set slot r lacking)
    kept reach.Lacked e = may-be-in book counts marks lacking (set lacking slot true) slot h e (length-set lacking slot true) (λ s apart. get_or-set_other lacking slot s true false apart)
    kept reach.Asked e = may-be-in book counts marks lacking lacking slot h e refl (λ s apart. refl)
    kept reach.All e = may-be-in book counts marks lacking lacking slot h e refl (λ s apart. refl)

-- ---- what is seen

-- a slot is counted by what is seen as by what is written
pub count-seen : (marks : List Bool) (slot : ℕ) (rs : List ForkRecord) → count_in (seen_all marks rs) slot ≡ count_in rs slot
count-seen marks slot rs = same-count _ _ (told (is_non_holder slot) (λ r. refl)) (told (is_asked_of slot) (λ r. refl))
  where
    -- as many records pass a test that looks at no dirt
    told : (p : ForkRecord → Bool) → ((r : ForkRecord) → p (dirtied_record r) ≡ p r) → length (filter p (seen_all marks rs)) ≡ length (filter p rs)
    told p same = ap length (filter-map_same p (seen_record marks) (λ r. seen-same p marks r (same r)) rs) ∙ length-map (filter p rs) (seen_record marks)

-- ---- a record that is read before marks are taken off

-- where a mark was taken off, a record has its ends and the sides of its fork and token
pub found-alike : (old new : ForkBook) (old_marks marks : List Bool) (id : ForkId) (r : ForkRecord) → IsSeenAlike old old_marks new marks → record_of id old.records ≡ Some r
    → (x : ForkRecord) × (record_of id new.records ≡ Some x) × (x.first ≡ r.first) × (x.second ≡ r.second) × IsSided r.fork x.fork
found-alike old new old_marks marks id r same found =
    let used = sym (is_in_use-seen marks id new.records) ∙ ap (λ (b : ForkBook). is_in_use id b.records) same.same ∙ is_in_use-seen old_marks id old.records ∙ found-used id old.records r found in
    let (x, at) = found_if_in_use id new.records used in (
      x,
      at,
      one (λ (y : ForkRecord). y.first) (λ y. refl) x at,
      one (λ (y : ForkRecord). y.second) (λ y. refl) x at,
      record { at = sym (one (λ (y : ForkRecord). y.fork.at_first) (λ y. refl) x at); token = sym (one (λ (y : ForkRecord). y.fork.token_first) (λ y. refl) x at) },
    )
  where
    -- what doesn't look at the dirt is told of both
    one : {A : Type 0} (f : ForkRecord → A) → ((y : ForkRecord) → f (dirtied_record y) ≡ f y) → (x : ForkRecord) → record_of id new.records ≡ Some x → f x ≡ f r
    one f kept x at = grind (arith, told_seen f kept marks id new.records, told_seen f kept old_marks id old.records, same.same)

-- ---- a record comes

-- a record that comes is counted at its holder and at its other end
pub more-at : (r : ForkRecord) (c : Count) (s : ℕ) → r.first ≢ r.second → (if s == holder r then count_with r.fork.at_first r.fork c else if s == non_holder r then count_with (not r.fork.at_first) r.fork c else c) ≡ counted_more s r c
more-at r c s differ = elim (cases_Bool r.fork.at_first) [ inl e ↦ rw e refl | inr e ↦ grind (arith, nat_tests, differ) ]

-- and so is one that goes
pub less-at : (r : ForkRecord) (c : Count) (s : ℕ) → r.first ≢ r.second → (if s == holder r then count_without r.fork.at_first r.fork c else if s == non_holder r then count_without (not r.fork.at_first) r.fork c else c) ≡ counted_less s r c
less-at r c s differ = elim (cases_Bool r.fork.at_first) [ inl e ↦ rw e refl | inr e ↦ grind (arith, nat_tests, differ) ]

-- its two ends are those
pub ends-at : (r : ForkRecord) (n : ℕ) → r.first ≢ r.second → r.first < n → r.second < n → (holder r < n) × (non_holder r < n) × (holder r ≢ non_holder r)
ends-at r n differ one two = elim (cases_Bool r.fork.at_first) [ inl e ↦ rw e (one, two, differ) | inr e ↦ rw e (two, one, λ same. differ (sym same)) ]

-- it can
pub can-add : (book : ForkBook) (counts : List Count) (marks lacking : List Bool) (r : ForkRecord) → IsBook book → IsTied book counts marks lacking → r.first ≢ r.second → r.first < book.slots → r.second < book.slots → CanAdd r counts
can-add book counts marks lacking r sound h differ first second = record {
  ends = record { differ = differ; first = rw h.places first; second = rw h.places second };
  few = λ s below. rw (h.counted s (rw (sym h.places) below)) (few-in book sound s);
}

-- and all is tied again
pub tied-added : (book : ForkBook) (counts new : List Count) (marks lacking : List Bool) (r : ForkRecord) → IsTied book counts marks lacking → r.first ≢ r.second → length new ≡ length counts → ((s : ℕ) → count_at new s ≡ counted_more s r (count_at counts s))
    → IsTied (record book { records = book.records ++ r ∷ [] }) new marks lacking
tied-added book counts new marks lacking r h differ long more = record {
  places = long ∙ h.places;
  counted = λ s below. more s ∙ ap (counted_more s r) (h.counted s below) ∙ sym (count-append book.records r differ s);
  marked = h.marked;
  listed = h.listed;
  lack = λ s is. rw (more s) (no-less s r (count_at counts s) (h.lack s is));
}
  where
    -- a count with a record more is no less
    no-less : (s : ℕ) (r : ForkRecord) (c : Count) → 1 ≤ c.lacked → 1 ≤ (counted_more s r c).lacked
    no-less s r c some = elim (cases_Bool (eqb s r.first)) [ inl e ↦ rw e (omega arith) | inr e ↦ elim (cases_Bool (eqb s r.second)) [ inl f ↦ rw (e, f) (omega arith) | inr f ↦ rw (e, f) some ] ]

-- ---- a record goes

module _ (book : ForkBook) (counts : List Count) (marks lacking : List Bool) (id : ForkId) (r : ForkRecord) (sound : IsBook book) (h : IsTied book counts marks lacking) (found : record_of id book.records ≡ Some r) where
  -- it can
  pub can-remove : CanRemove r counts
  can-remove =
      let ends = ends_in book id r sound found in
      record {
        ends = record { differ = ends.differ; first = rw h.places ends.first; second = rw h.places ends.second };
        first = rw (h.counted r.first ends.first) (some-at book id r sound found true);
        second = rw (h.counted r.second ends.second) (some-at book id r sound found false);
      }

  -- the end that lacked its fork is a slot
  pub taker-in : non_holder r < book.slots
  taker-in = elim (cases_Bool r.fork.at_first) [ inl e ↦ rw e (ends_in book id r sound found).second | inr e ↦ rw e (ends_in book id r sound found).first ]

  -- all is tied again
  pub tied-removed : (new : List Count) → length new ≡ length counts → ((s : ℕ) → count_at new s ≡ counted_less s r (count_at counts s)) → IsTied (record book { records = without id book.records }) new marks (relieved (non_holder r) true (count_at new (non_holder r)).lacked lacking)
  tied-removed new long less =
      let counted : (s : ℕ) → s < book.slots → count_at new s ≡ count_in (without id book.records) s = λ s below.
      less s ∙ ap (counted_less s r) (h.counted s below) ∙ sym (count-gone book.records id r sound.each_id_once found (ends_in book id r sound found).differ s) in
      let place : non_holder r < length lacking = rw h.listed taker-in in
      record {
        places = long ∙ h.places;
        counted = counted;
        marked = h.marked;
        listed = listed-relieved lacking (non_holder r) true (count_at new (non_holder r)).lacked ∙ h.listed;
        lack = λ s is. elim (cases_Bool (eqb s (non_holder r))) [
          | inl e ↦
              let in_it : is_member (relieved (non_holder r) true (count_at new (non_holder r)).lacked lacking) (non_holder r) ≡ true = rw (eqb-true s (non_holder r) e) at is in
              rw (eqb-true s (non_holder r) e) (elim (relieved-same lacking (non_holder r) true (count_at new (non_holder r)).lacked place in_it) [ inl some ↦ some | inr kept ↦ absurd (false≢true (sym kept.0)) ])
          | inr e ↦
              let was = sym (relieved-other lacking (non_holder r) s true (count_at new (non_holder r)).lacked (eqb-false s (non_holder r) e)) ∙ is in
              let below : s < book.slots = rw (← h.listed) (member-within lacking s was) in
              let some = rw (h.counted s below) at (h.lack s was) in
              let gone = pass-without (is_non_holder s) book.records id r sound.each_id_once found in
              rw (counted s below) (omega (arith, some, rw e at gone))
        ];
      }

-- ---- a fork takes the place of another

-- a record that goes and comes again with another fork leaves all tied to that fork in its place
pub tied-put : (book : ForkBook) (counts one two : List Count) (marks lacking : List Bool) (id : ForkId) (r : ForkRecord) (fork : Fork) → IsBook book → IsTied book counts marks lacking → record_of id book.records ≡ Some r
    → length one ≡ length counts → ((s : ℕ) → count_at one s ≡ counted_less s r (count_at counts s)) → length two ≡ length one → ((s : ℕ) → count_at two s ≡ counted_more s (with_this fork r) (count_at one s))
    → IsTied (book_with_fork id fork book) two marks (relieved (non_holder r) true (count_at one (non_holder r)).lacked lacking)
tied-put book counts one two marks lacking id r fork sound h found long less long_again more =
    let rs = book.records in let once = sound.each_id_once in let differ = (ends_in book id r sound found).differ in
    let gone = tied-removed book counts marks lacking id r sound h found one long less in
    let back = tied-added (record book { records = without id rs }) one two marks (relieved (non_holder r) true (count_at one (non_holder r)).lacked lacking) (with_this fork r) gone differ long_again more in
    record {
      places = back.places;
      counted = λ s below.
          back.counted s below ∙ count-append (without id rs) (with_this fork r) differ s ∙ ap (counted_more s (with_this fork r)) (count-gone rs id r once found differ s) ∙ again s (count_in rs s)
          ∙ sym (count-put rs id fork r true once found differ s);
      marked = back.marked;
      listed = back.listed;
      lack = back.lack;
    }
  where
    -- less one and more the other is the other in its place
    again : (s : ℕ) (c : Count) → counted_more s (with_this fork r) (counted_less s r c) ≡ recounted_at s r true r.fork fork c
    again s c = elim (cases_Bool (eqb s r.first)) [ inl e ↦ rw e refl | inr e ↦ elim (cases_Bool (eqb s r.second)) [ inl f ↦ rw (e, f) refl | inr f ↦ rw (e, f) refl ] ]

-- a record can come again that has gone
pub can-come : (counts one : List Count) (r : ForkRecord) (fork : Fork) → CanRemove r counts → ((s : ℕ) → s < length counts → ((count_at counts s).lacked ≤ 65536) × ((count_at counts s).asked ≤ 65536)) → length one ≡ length counts
    → ((s : ℕ) → count_at one s ≡ counted_less s r (count_at counts s)) → CanAdd (with_this fork r) one
can-come counts one r fork can few long less = record {
  ends = record { differ = can.ends.differ; first = rw long can.ends.first; second = rw long can.ends.second };
  few = λ s below. rw (less s) (no-more s (count_at counts s) (few s (rw (sym long) below)));
}
  where
    -- a count with a record less is no more
    no-more : (s : ℕ) (c : Count) → (c.lacked ≤ 65536) × (c.asked ≤ 65536) → ((counted_less s r c).lacked ≤ 65536) × ((counted_less s r c).asked ≤ 65536)
    no-more s c h = elim (cases_Bool (eqb s r.first)) [
      | inl e ↦ let le = without-le true r.fork c in rw e (omega (arith, le.0, h.0), omega (arith, le.1, h.1))
      | inr e ↦ elim (cases_Bool (eqb s r.second)) [ inl f ↦ let le = without-le false r.fork c in rw (e, f) (omega (arith, le.0, h.0), omega (arith, le.1, h.1)) | inr f ↦ rw (e, f) h ]
    ]

-- two counts that are changed so
pub both-are : (counts : List Count) (i j : ℕ) (a b : Count) (f g : Count → Count) → a ≡ f (count_at counts i) → b ≡ g (count_at counts j) → (s : ℕ)
    → (if s == i then a else if s == j then b else count_at counts s) ≡ (if s == i then f (count_at counts s) else if s == j then g (count_at counts s) else count_at counts s)
both-are counts i j a b f g one two s = elim (cases_Bool (eqb s i)) [
  | inl e ↦ rw (e, eqb-true s i e) one
  | inr e ↦ elim (cases_Bool (eqb s j)) [ inl k ↦ rw (e, k, eqb-true s j k) two | inr k ↦ rw (e, k) refl ]
]
