-- What one step of a walk over the records of a slot leaves, and what records that are taken out one by one do.
use Rattle.dine_arbiter.proofs.Words.{◌≡◌, ℕ, ◌+◌, Bool, true, false, not, List, [], ◌∷◌, length, Some, None, is_some, inl, inr, refl, sym, ap, ◌∙◌, subst, arith, ◌<◌, Option, list_any, filter, cases_Bool, or_parts, nat_tests, EachIdOnce, EachPairOnce, has_id, is_end, is_in_use, are_joined, slot_list, first_id, behind, record_of, ForkId, ForkRecord, any-filter, first-used, once-filter, same_id-refl, same_id-true, without-absent, IsWalk, at-visit, reads, rest_of}
use Rattle.dine_forks.specs.Book.{is_between, without}
use Rattle.dine_forks.proofs.CallerLemmas.{length-without}

-- there is a first record that passes exactly where some record passes
pub is_some-first_id : (test : ForkRecord → Bool) (rs : List ForkRecord) → is_some (first_id (filter test rs)) ≡ list_any test rs
is_some-first_id test [] = refl
is_some-first_id test (r ∷ rs) = elim (cases_Bool (test r)) [ inl e ↦ rw e refl | inr e ↦ rw e (is_some-first_id test rs) ]

-- all records are left where none passes
pub filter-none : (test : ForkRecord → Bool) (rs : List ForkRecord) → list_any test rs ≡ false → filter (λ r. not (test r)) rs ≡ rs
filter-none test [] h = refl
filter-none test (x ∷ xs) h =
    let parts = or_parts (test x) (list_any test xs) h in
    rw parts.0 (ap (λ t. x ∷ t) (filter-none test xs parts.1))

-- and where each passes another
pub filter-all : (rs : List ForkRecord) → filter (λ r. true) rs ≡ rs
filter-all [] = refl
filter-all (x ∷ xs) = ap (λ t. x ∷ t) (filter-all xs)

-- so they are where there is no first one that passes
pub none-left : (test : ForkRecord → Bool) (rs : List ForkRecord) → first_id (filter test rs) ≡ None → filter (λ r. not (test r)) rs ≡ rs
none-left test rs h = filter-none test rs (sym (is_some-first_id test rs) ∙ ap is_some h)

-- it doesn't matter which of two tests is asked first
filter-filter : (p q : ForkRecord → Bool) (rs : List ForkRecord) → filter p (filter q rs) ≡ filter q (filter p rs)
filter-filter p q [] = refl
filter-filter p q (x ∷ xs) = grind (arith, filter-filter p q xs)

-- no later record has the id of the first
gone : (id : ForkId) (x : ForkRecord) (xs : List ForkRecord) → EachIdOnce (x ∷ xs) → has_id id x ≡ true → is_in_use id xs ≡ false
gone id x xs once f = subst (λ i. is_in_use i xs ≡ false) (same_id-true x.id id f) once.0

-- ---- the records of a slot

-- a record of the slot is taken out: the others are as they were
pub others-without : (slot : ℕ) (id : ForkId) (rs : List ForkRecord) → EachIdOnce rs → is_in_use id (slot_list slot rs) ≡ true → filter (λ r. not (is_end slot r)) (without id rs) ≡ filter (λ r. not (is_end slot r)) rs
others-without slot id [] once used = refl
others-without slot id (x ∷ xs) once used = grind (arith, without-absent id xs, gone id x xs once, any-filter (has_id id) (is_end slot) xs, others-without slot id xs once.1)

-- and the slot has one record less
pub fewer-without : (slot : ℕ) (id : ForkId) (rs : List ForkRecord) → EachIdOnce rs → is_in_use id (slot_list slot rs) ≡ true → length (slot_list slot (without id rs)) + 1 ≡ length (slot_list slot rs)
fewer-without slot id rs once used =
    ap (λ t. length t + 1) (filter-filter (is_end slot) (λ r. not (has_id id r)) rs)
    ∙ length-without id (slot_list slot rs) (once-filter (is_end slot) rs once) used

-- the first record of a slot is in use
pub first-listed : (slot : ℕ) (id : ForkId) (rs : List ForkRecord) → first_id (slot_list slot rs) ≡ Some id → (is_in_use id (slot_list slot rs) ≡ true) × (is_in_use id rs ≡ true)
first-listed slot id rs h =
    let listed = first-used (slot_list slot rs) id h in
    (listed, any-filter (has_id id) (is_end slot) rs listed)

-- ---- the record of two slots

-- a record that doesn't join the ends of x doesn't join two slots that x joins
same_ends : (a b : ℕ) (x y : ForkRecord) → is_between a b x ≡ true → is_between x.first x.second y ≡ false → is_between a b y ≡ false
same_ends a b x y h k = grind (arith, nat_tests)

-- so no record joins the two slots where none joins the ends of x
none-between : (a b : ℕ) (x : ForkRecord) (rs : List ForkRecord) → is_between a b x ≡ true → are_joined x.first x.second rs ≡ false → list_any (is_between a b) rs ≡ false
none-between a b x [] h k = refl
none-between a b x (y ∷ ys) h k =
    let parts = or_parts (is_between x.first x.second y) (are_joined x.first x.second ys) k in
    rw (same_ends a b x y h parts.0) (none-between a b x ys h parts.1)

-- the one record of two slots is taken out
pub apart-without : (a b : ℕ) (id : ForkId) (rs : List ForkRecord) → EachIdOnce rs → EachPairOnce rs → first_id (filter (is_between a b) rs) ≡ Some id → without id rs ≡ filter (λ r. not (is_between a b r)) rs
apart-without a b id [] once pairs h = refl
apart-without a b id (x ∷ xs) once pairs h = grind (arith, same_id-refl x.id, without-absent id xs, gone id x xs once, filter-none (is_between a b) xs, none-between a b x xs, any-filter (has_id id) (is_between a b) xs, first-used (filter (is_between a b) xs) id, apart-without a b id xs once.1 pairs.1)

-- the record of two slots is in use
pub between-used : (a b : ℕ) (id : ForkId) (rs : List ForkRecord) → first_id (filter (is_between a b) rs) ≡ Some id → is_in_use id rs ≡ true
between-used a b id rs h = any-filter (has_id id) (is_between a b) rs (first-used (filter (is_between a b) rs) id h)

-- ---- a step reads a record

-- a step that reads goes on with what stands behind the record
pub read_on : (slot : ℕ) (id : ForkId) (next next' : Option ForkId) (rs : List ForkRecord) (r : ForkRecord) → next ≡ Some id → IsWalk slot next rs → record_of id rs ≡ Some r → next' ≡ first_id (behind id (slot_list slot rs))
    → IsWalk slot next' rs × (rest_of next (slot_list slot rs) ≡ r ∷ rest_of next' (slot_list slot rs))
read_on slot id next next' rs r here walk is onward = reads slot id next next' rs r here (at-visit slot id next rs r here walk is) onward

-- what is left then is shorter
pub shorter : {X : Type 0} (x : X) (xs ys : List X) → ys ≡ x ∷ xs → length xs < length ys
shorter x xs ys e = let len = ap length e in omega arith
