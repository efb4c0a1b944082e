-- What a change of the records, or of the marks of slots, is of the records as they are seen.
use Rattle.dine_forks.proofs.Linking.{ends_of_used}
use Rattle.dine_forks.proofs.Records.{with_fork-absent}
use Rattle.dine_forks.proofs.Words.{◌≡◌, ℕ, ◌<◌, Bool, true, false, cond, eqb, ◌==◌, ◌||◌, List, [], ◌∷◌, ◌++◌, length, take, drop, map, set, Some, inl, inr, refl, sym, ap, ◌∙◌, subst, arith, list_all, cases_Bool, eqb-true, eq-eqb, false≢true, get_or-set_same, get_or-set_other, take-append_seam, length-map, if◌then◌else◌, Fork, ForkBook, ForkId, ForkRecord, EachIdOnce, EndsAreSlots, has_id, holds, is_end, record_of, slot_list, with_fork, holder, dirtied_at, is_marked, own_dirtied_at, own_dirtied_fork, seen_book, seen_record}
use Rattle.dine_forks.specs.Book.{HasLinked}
use Rattle.dine_forks.proofs.Seen.{seen_all, is_in_use-seen, map-map}

-- ---- marks

-- a mark that is set at one slot leaves the others
pub marked-other : (marks : List Bool) (slot other : ℕ) (b : Bool) → eqb slot other ≡ false → is_marked (set marks slot b) other ≡ is_marked marks other
marked-other marks slot other b e = get_or-set_other marks slot other b false (λ same. false≢true (sym e ∙ eq-eqb slot other (sym same)))

-- and is read there
pub marked-same : (marks : List Bool) (slot other : ℕ) (b : Bool) → slot < length marks → eqb slot other ≡ true → is_marked (set marks slot b) other ≡ b
marked-same marks slot other b within e = subst (λ k. is_marked (set marks slot b) k ≡ b) (eqb-true slot other e) (get_or-set_same marks slot b false within)

-- two changes are one where they are one on each record
pub map-alike : {X Y : Type 0} (f g : X → Y) → ((x : X) → f x ≡ g x) → (xs : List X) → map f xs ≡ map g xs
map-alike f g same [] = refl
map-alike f g same (x ∷ xs) = rw (same x, map-alike f g same xs) refl

-- ---- a mark ends, and the forks are dirty by their records

-- a record is seen as before once the mark of a slot ends and its dirt is written
unmark-one : (marks : List Bool) (slot : ℕ) → slot < length marks → is_marked marks slot ≡ true → (r : ForkRecord) → seen_record (set marks slot false) (own_dirtied_at slot r) ≡ seen_record marks r
unmark-one marks slot within marked r = grind (arith, marked-same marks slot (holder r) false within, marked-other marks slot (holder r) false, eqb-true slot (holder r))

-- so all records are seen as before
pub unmark_seen : (marks : List Bool) (slot : ℕ) (rs : List ForkRecord) → slot < length marks → is_marked marks slot ≡ true
    → seen_all (set marks slot false) (map (own_dirtied_at slot) rs) ≡ seen_all marks rs
unmark_seen marks slot rs within marked =
    map-map (seen_record (set marks slot false)) (own_dirtied_at slot) rs
    ∙ map-alike (λ r. seen_record (set marks slot false) (own_dirtied_at slot r)) (seen_record marks) (unmark-one marks slot within marked) rs

-- ---- a slot takes its forks in use, all of which it holds

-- a record of a slot that takes its forks in use is seen dirty
take-one : (marks : List Bool) (slot : ℕ) (r : ForkRecord) → slot < length marks → (is_end slot r ≡ true → holds slot r ≡ true) → seen_record (set marks slot true) r ≡ dirtied_at slot (seen_record marks r)
take-one marks slot r within held = grind (arith, marked-same marks slot (holder r) true within, marked-other marks slot (holder r) true)

-- so all records of the slot are seen dirty
pub take-seen : (marks : List Bool) (slot : ℕ) (rs : List ForkRecord) → slot < length marks → list_all (holds slot) (slot_list slot rs) ≡ true
    → seen_all (set marks slot true) rs ≡ map (dirtied_at slot) (seen_all marks rs)
take-seen marks slot [] within held = refl
take-seen marks slot (r ∷ rs) within held = grind (arith, take-one marks slot r within, take-seen marks slot rs within)

-- ---- the fork of one record

-- a record is seen as it is where its fork is dirty or its holder has no mark
put-one : (marks : List Bool) (f : Fork) (r : ForkRecord) → (f.dirty ≡ false → is_marked marks (cond f.at_first r.first r.second) ≡ false)
    → seen_record marks record { id = r.id; first = r.first; second = r.second; fork = f } ≡ record { id = r.id; first = r.first; second = r.second; fork = f }
put-one marks f r free = elim (cases_Bool f.dirty) [ inl e ↦ grind arith | inr e ↦ rw (free e) refl ]

-- a fork is put in its place where it is dirty or its new holder has no mark
pub put-seen : (marks : List Bool) (id : ForkId) (f : Fork) (rs : List ForkRecord) (r : ForkRecord) → EachIdOnce rs → record_of id rs ≡ Some r
    → (f.dirty ≡ false → is_marked marks (cond f.at_first r.first r.second) ≡ false) → seen_all marks (with_fork id f rs) ≡ with_fork id f (seen_all marks rs)
put-seen marks id f [] r once found free = refl
put-seen marks id f (x ∷ xs) r once found free = elim (cases_Bool (has_id id x)) [
  | inl e ↦
      let is : x ≡ r = (let k : Some x ≡ Some r = rw e at found in cc) in
      let one = put-one marks f x (rw (sym is) at free) in
      grind (arith, one, with_fork-absent id f xs, with_fork-absent id f (seen_all marks xs), is_in_use-seen marks id xs)
  | inr e ↦ grind (arith, e, put-seen marks id f xs r once.1 (rw e at found) free)
]

-- a record comes that is seen as it is
pub more-seen : (marks : List Bool) (rs : List ForkRecord) (r : ForkRecord) → (r.fork.dirty ≡ false → is_marked marks (holder r) ≡ false) → seen_all marks (rs ++ r ∷ []) ≡ seen_all marks rs ++ r ∷ []
more-seen marks [] r free = ap (λ x. x ∷ []) (put-one marks r.fork r free)
more-seen marks (x ∷ xs) r free = ap (λ t. seen_record marks x ∷ t) (more-seen marks xs r free)

-- a fork gets dirty that the slot has
pub own-dirt : (slot : ℕ) (r : ForkRecord) → record { at_first = r.fork.at_first; dirty = r.fork.dirty || (slot == holder r); token_first = r.fork.token_first } ≡ own_dirtied_fork slot r
own-dirt slot r = elim (cases_Bool (slot == holder r)) [ inl e ↦ rw e (grind arith) | inr e ↦ rw e (grind arith) ]

-- ---- a record that is read

-- the holder of a record is a slot
pub holder-within : (slots : ℕ) (id : ForkId) (rs : List ForkRecord) (r : ForkRecord) → EndsAreSlots slots rs → record_of id rs ≡ Some r → holder r < slots
holder-within slots id rs r h found = grind (arith, ends_of_used slots id rs r h found)

-- it comes back whole
pub lent : {X : Type 0} (new old : List X) (n : ℕ) → length new ≡ n → take n (new ++ drop (length new) old) ≡ new
lent new old n h = rw (← h) (take-append_seam new (drop (length new) old))

-- a record that comes is seen to come
pub linked-seen : (marks : List Bool) (lists new : ForkBook) (a b : ℕ) (fork : Fork) (id : ForkId) → HasLinked a b fork lists (Some id) new → (fork.dirty ≡ false → is_marked marks (if fork.at_first then a else b) ≡ false) → HasLinked a b fork (seen_book marks lists) (Some id) (seen_book marks new)
linked-seen marks lists new a b fork id h free = record {
  full = h.full ∙ (let many = length-map lists.records (seen_record marks) in rw many refl);
  unchanged = tt;
  fresh = is_in_use-seen marks id lists.records ∙ h.fresh;
  linked = ap (seen_book marks) h.linked ∙ (λ i. record lists { records = more-seen marks lists.records (record { id = id; first = a; second = b; fork = fork }) free i });
}
