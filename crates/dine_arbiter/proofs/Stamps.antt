-- Stamps differ, and tell whose last meal is sooner. The first free seat is the least slot that no task has.
use Rattle.dine_arbiter.proofs.Words.{◌≡◌, ◌≢◌, ℕ, ◌<◌, true, false, ltb, List, length, get_or, set, Option, Some, None, refl, sym, ap, ◌∙◌, arith, get_or-set_same, get_or-set_other, [], ◌∷◌, is_some, ◌⊎◌, inl, inr, append-nil, zero, suc, ◌+◌, Bool, eqb, same_task, state_in, stands_before, sooner, same_task-true, free_slot-unused, Task, State, Seat, by_stamp, ArePlaced, StampsDiffer, put_in_seat, is_sooner_at, Diner, seat_at, stands_before_at, first_free, cases_Bool, le-ltb, lt-ltb, eq-eqb, ne_eqb, list_any, set-get_or, any-filter_same, free_slot_from, without, EachOnce, used_before}
use Rattle.dine_arbiter.proofs.Seated.{placed_seat, state_in-by_stamp, stands_before-by_stamp, stands_before-absent, stands_before-first, by_stamp-none, by_stamp-one, one-by_stamp}

-- stamps differ once a seat gets a content whose stamp no other has
stamps-set : (seats : List (Option Seat)) (i : ℕ) (o : Option Seat) → StampsDiffer seats → i < length seats → ((j : ℕ) (x y : Seat) → o ≡ Some x → get_or seats j None ≡ Some y → x.stamp ≡ y.stamp → i ≡ j) → StampsDiffer (set seats i o)
stamps-set seats i o differ lt new a b x y ha hb e = grind (arith, here a x, here b y, other a, other b, new b x y, new a y x, differ a b x y)
  where
    here : (k : ℕ) (z : Seat) → k ≡ i → get_or (set seats i o) k None ≡ Some z → o ≡ Some z
    here k z same at = sym (get_or-set_same seats i o None lt) ∙ ap (λ n. get_or (set seats i o) n None) (sym same) ∙ at

    other : (k : ℕ) → k ≢ i → get_or (set seats i o) k None ≡ get_or seats k None
    other k ne = get_or-set_other seats i k o None ne

-- a seat whose task gets a state had the same stamp before
put_stamp : (s : State) (u : Task) (o : Option Seat) (x : Seat) → put_in_seat s u o ≡ Some x → (z : Seat) × (o ≡ Some z) × (z.stamp ≡ x.stamp)
put_stamp s u None x h = absurd (let k : None ≡ Some x = h in cc)
put_stamp s u (Some z) x h =
    let w : Seat = record { diner = _; stamp = z.stamp } in
    let same : w ≡ x = (let k : Some w ≡ Some x = h in cc) in
    (z, refl, ap (λ (t : Seat). t.stamp) same)

-- so stamps differ once a task gets a state
pub stamps-put : (seats : List (Option Seat)) (s : State) (u : Task) → StampsDiffer seats → u.slot < length seats → StampsDiffer (set seats u.slot (put_in_seat s u (get_or seats u.slot None)))
stamps-put seats s u differ lt = stamps-set seats u.slot (put_in_seat s u (get_or seats u.slot None)) differ lt (λ j x y put at e.
    let (z, was, same) = put_stamp s u (get_or seats u.slot None) x put in
    differ u.slot j z y was at (same ∙ e))

-- and once a seat is stamped with the clock, which is above all stamps
pub stamps-latest : (clock : ℕ) (seats : List (Option Seat)) (i : ℕ) (seat : Seat) → StampsDiffer seats → ArePlaced clock 0 seats → i < length seats → seat.stamp ≡ clock → StampsDiffer (set seats i (Some seat))
stamps-latest clock seats i seat differ placed lt latest = stamps-set seats i (Some seat) differ lt (λ j x y put at e. absurd (
    let same : seat ≡ x = (let k : Some seat ≡ Some x = put in cc) in
    let stamp : x.stamp ≡ clock = ap (λ (t : Seat). t.stamp) (sym same) ∙ latest in
    let less : y.stamp < clock = (placed_seat clock seats j y placed at).1 in
    omega arith))

-- and once a seat is free, which has no stamp
pub stamps-free : (seats : List (Option Seat)) (i : ℕ) → StampsDiffer seats → i < length seats → StampsDiffer (set seats i None)
stamps-free seats i differ lt = stamps-set seats i None differ lt (λ j x y put at e. absurd (let k : None ≡ Some x = put in cc))

-- two tasks in their seats have two slots
pub slots-apart : (seats : List (Option Seat)) (u v : Task) (x y : Seat) → get_or seats u.slot None ≡ Some x → same_task x.diner.task u ≡ true → get_or seats v.slot None ≡ Some y → same_task y.diner.task v ≡ true → same_task u v ≡ false → u.slot ≢ v.slot
slots-apart seats u v x y at_u is_u at_v is_v ne e =
    let seat : x ≡ y = (let k : Some x ≡ Some y = sym at_u ∙ ap (λ n. get_or seats n None) e ∙ at_v in cc) in
    let yes : same_task u v ≡ true = ap (λ w. same_task w v) (sym (same_task-true x.diner.task u is_u) ∙ ap (λ (t : Seat). t.diner.task) seat) ∙ is_v in
    let k : true ≡ false = sym yes ∙ ne in cc

-- so they have two stamps
pub stamps-apart : (seats : List (Option Seat)) (u v : Task) (x y : Seat) → StampsDiffer seats → get_or seats u.slot None ≡ Some x → same_task x.diner.task u ≡ true → get_or seats v.slot None ≡ Some y → same_task y.diner.task v ≡ true → same_task u v ≡ false → x.stamp ≢ y.stamp
stamps-apart seats u v x y differ at_u is_u at_v is_v ne e = slots-apart seats u v x y at_u is_u at_v is_v ne (differ u.slot v.slot x y at_u at_v e)

-- ---- who stands before whom

-- nobody stands before itself
stands_before-self : (order : List Diner) (u : Task) → stands_before order u u ≡ false
stands_before-self [] u = refl
stands_before-self (d ∷ ds) u = grind (arith, stands_before-self ds u)

module _ (clock : ℕ) (seats : List (Option Seat)) (placed : ArePlaced clock 0 seats) (differ : StampsDiffer seats) where
  -- a task has no seat, and isn't present, or it is the task of its seat
  has_seat : (w : Task) → ((seat_at seats w ≡ None) × (state_in (by_stamp clock seats) w ≡ None)) ⊎ ((z : Seat) × (get_or seats w.slot None ≡ Some z) × (same_task z.diner.task w ≡ true))
  has_seat w = go (get_or seats w.slot None) refl
    where
      go : (o : Option Seat) → get_or seats w.slot None ≡ o → ((seat_at seats w ≡ None) × (state_in (by_stamp clock seats) w ≡ None)) ⊎ ((z : Seat) × (get_or seats w.slot None ≡ Some z) × (same_task z.diner.task w ≡ true))
      go None at = inl (rw at refl, state_in-by_stamp clock seats w placed ∙ rw at refl)
      go (Some z) at = elim (cases_Bool (same_task z.diner.task w)) [
        | inl is ↦ inr (z, at, is)
        | inr other ↦ inl (rw (at, other) refl, state_in-by_stamp clock seats w placed ∙ rw (at, other) refl)
      ]

  module _ (u v : Task) (x : Seat) (at_u : get_or seats u.slot None ≡ Some x) (is_u : same_task x.diner.task u ≡ true) where
    -- a task that is present stands before one that isn't
    before_absent : state_in (by_stamp clock seats) v ≡ None → stands_before (by_stamp clock seats) u v ≡ true
    before_absent absent =
        let there : is_some (state_in (by_stamp clock seats) u) ≡ true = ap is_some (state_in-by_stamp clock seats u placed) ∙ rw (at_u, is_u) refl in
        ap (λ order. stands_before order u v) (sym (append-nil (by_stamp clock seats))) ∙ stands_before-first (by_stamp clock seats) [] u v there absent

    -- of two that are present, the one with the earlier stamp stands before the other
    both : (y : Seat) → get_or seats v.slot None ≡ Some y → same_task y.diner.task v ≡ true → ltb x.stamp y.stamp ≡ stands_before (by_stamp clock seats) u v
    both y at_v is_v = grind (arith, same_task-true u v, le-ltb x.stamp y.stamp, stands_before-self (by_stamp clock seats) u, stands_before-by_stamp clock clock seats u v x y placed at_u at_v is_u is_v, stamps-apart seats u v x y differ at_u is_u at_v is_v, placed_seat clock seats u.slot x placed at_u, placed_seat clock seats v.slot y placed at_v)

  -- so their seats tell who of two tasks stands before the other
  pub stands_before_at-is : (u v : Task) → stands_before_at seats u v ≡ stands_before (by_stamp clock seats) u v
  stands_before_at-is u v = elim (has_seat u) [
    | inl (none, absent) ↦ rw none (sym (stands_before-absent (by_stamp clock seats) u v absent))
    | inr (x, at_u, is_u) ↦ elim (has_seat v) [
      | inl (none, absent) ↦ rw (none, at_u, is_u) (sym (before_absent u v x at_u is_u absent))
      | inr (y, at_v, is_v) ↦ rw (at_u, is_u, at_v, is_v) (both u v x at_u is_u y at_v is_v)
    ]
  ]

-- of two tasks that are present, the seats tell whose last meal is sooner
pub is_sooner_at-is : (clock : ℕ) (seats : List (Option Seat)) (u v : Task) (x y : Seat) → ArePlaced clock 0 seats → StampsDiffer seats → get_or seats u.slot None ≡ Some x → same_task x.diner.task u ≡ true → get_or seats v.slot None ≡ Some y → same_task y.diner.task v ≡ true
    → is_sooner_at seats u.slot v.slot ≡ sooner (by_stamp clock seats) u v
is_sooner_at-is clock seats u v x y placed differ at_u is_u at_v is_v =
    let stands : ltb x.stamp y.stamp ≡ stands_before (by_stamp clock seats) u v = rw (at_u, at_v, is_u, is_v) at (stands_before_at-is clock seats placed differ u v) in
    rw (state_in-by_stamp clock seats u placed, state_in-by_stamp clock seats v placed, ← stands, at_u, at_v, is_u, is_v) refl

-- ---- the first free seat

-- a slot is used exactly where its seat is taken
used-is : (clock s : ℕ) (seats : List (Option Seat)) → ArePlaced clock 0 seats → list_any (λ d. eqb d.task.slot s) (by_stamp clock seats) ≡ is_some (get_or seats s None)
used-is clock s seats h =
    let p : Diner → Bool = λ d. eqb d.task.slot s in
    sym (any-filter_same p p true (λ d passes. passes) (by_stamp clock seats))
    ∙ ap (list_any p) (one-by_stamp p clock seats s (λ j x ne at. ne_eqb x.diner.task.slot s (λ e. ne (sym (placed_seat clock seats j x h at).0 ∙ e))))
    ∙ any-filter_same p p true (λ d passes. passes) (by_stamp clock (get_or seats s None ∷ [])) ∙ whole (get_or seats s None) refl
  where
    whole : (o : Option Seat) → get_or seats s None ≡ o → list_any (λ d. eqb d.task.slot s) (by_stamp clock (o ∷ [])) ≡ is_some o
    whole None at = rw (by_stamp-none clock) refl
    whole (Some x) at =
        let here = placed_seat clock seats s x h at in
        rw (by_stamp-one clock x, lt-ltb x.stamp clock here.1, eq-eqb x.diner.task.slot s here.0) refl

-- a free seat is the first where each before it is taken
first_free-is : (xs : List (Option Seat)) (m : ℕ) → is_some (get_or xs m None) ≡ false → ((k : ℕ) → k < m → is_some (get_or xs k None) ≡ true) → first_free xs ≡ m
first_free-is (Some x ∷ xs) (suc m) free before = ap suc (first_free-is xs m free (λ k lt. before (suc k) (omega arith)))
first_free-is (Some x ∷ xs) zero free before = absurd (let k : true ≡ false = free in cc)
first_free-is xs (suc m) free before = absurd (let k : false ≡ true = before 0 (omega arith) in cc)
first_free-is xs zero free before = refl

-- it is at the slot that the next task to join gets
pub free_slot-is : (clock : ℕ) (seats : List (Option Seat)) → ArePlaced clock 0 seats → free_slot_from (length (by_stamp clock seats)) 0 (by_stamp clock seats) ≡ first_free seats
free_slot-is clock seats h =
    let order = by_stamp clock seats in
    let slot = free_slot_from (length order) 0 order in
    sym (first_free-is seats slot (sym (used-is clock slot seats h) ∙ free_slot-unused order) (λ k lt. sym (used-is clock k seats h) ∙ used_before (length order) 0 order k (omega arith) lt))

-- the first free seat is free
pub first_free_free : (seats : List (Option Seat)) → get_or seats (first_free seats) None ≡ None
first_free_free (Some seat ∷ xs) = first_free_free xs
first_free_free xs = refl

-- a free seat stays when it is made free
pub set-free : (seats : List (Option Seat)) (i : ℕ) → get_or seats i None ≡ None → set seats i None ≡ seats
set-free seats i h = ap (set seats i) (sym h) ∙ set-get_or seats i None

-- ---- one task less

-- nobody is left out for a task that isn't there
without-absent : (u : Task) (order : List Diner) → state_in order u ≡ None → without u order ≡ order
without-absent u [] h = refl
without-absent u (d ∷ ds) h = grind (arith, without-absent u ds)

-- one is left out for a task that is there
pub length-without : (u : Task) (order : List Diner) → EachOnce order → is_some (state_in order u) ≡ true → length (without u order) + 1 ≡ length order
length-without u [] once some = absurd (let k : false ≡ true = some in cc)
length-without u (d ∷ ds) once some = grind (arith, without-absent u ds, same_task-true d.task u, length-without u ds once.1)
