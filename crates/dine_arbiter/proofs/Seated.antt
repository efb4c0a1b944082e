-- What a change of one seat does to the order that the stamps tell.
use Rattle.dine_arbiter.proofs.Words.{◌≡◌, ◌≢◌, ℕ, Bool, not, zero, suc, ◌+◌, ◌<◌, ◌≤◌, true, false, cond, if◌then◌else◌, eqb, ltb, List, [], ◌∷◌, ◌++◌, length, get_or, set, map, replicate, Option, Some, None, is_some, inl, inr, refl, sym, ap, ◌∙◌, subst, arith, add-zero, nat_tests, cons_option, filter, lt-ltb, le-ltb, eq-eqb, ne_eqb, cases_eq, cases_lt, get_or-map, ext_get_or, get_or-set_other, get_or-set_same, length-map, length-set, map-append, map-set, set-get_or, filter-append, filter_map-append, same_task, state_in, stands_before, diner_put_in, with_state, without, moved_last, IsTold, is_hungry, Task, State, Thinking, Diner, Seat, diner_stamped, stamped, by_stamp, HasSlot, IsPlaced, ArePlaced, is_free, put_in_seat, state_in_seat, state_at, state_of_seat}

-- ---- equal seats

-- what is read of each of so many equal ones
pub map_replicate : {X Y : Type 0} (f : X → Y) (n : ℕ) (x : X) → map f (replicate n x) ≡ replicate n (f x)
map_replicate f zero x = refl
map_replicate f (suc n) x = ap (λ ys. f x ∷ ys) (map_replicate f n x)

-- whatever place is read of equal ones, with the same behind all
pub get_or-equal : {X : Type 0} (n k : ℕ) (x : X) → get_or (replicate n x) k x ≡ x
get_or-equal zero k x = refl
get_or-equal (suc n) zero x = refl
get_or-equal (suc n) (suc k) x = get_or-equal n k x

-- ---- what is kept beside the seats

-- what holds of each place holds once one of them gets what it holds of
each-set : (P : ℕ → Option Seat → Type 0) (seats : List (Option Seat)) (i : ℕ) (o : Option Seat) → ((k : ℕ) → P k (get_or seats k None)) → P i o → (k : ℕ) → P k (get_or (set seats i o) k None)
each-set P (x ∷ xs) zero o h p zero = p
each-set P (x ∷ xs) (suc i) o h p (suc k) = each-set (λ n. P (suc n)) xs i o (λ n. h (suc n)) p k
each-set P xs i o h p k = h k

module _ {seats : List (Option Seat)} {states : List State} {hungry free : List Bool} (told : IsTold seats states hungry free) (i : ℕ) (o : Option Seat) where
  -- a seat gets a new content, and what is kept beside it is written too
  pub told-set : (states' : List State) (hungry' free' : List Bool) → HasSlot i o → states' ≡ set states i (state_of_seat o) → hungry' ≡ map is_hungry states' → free' ≡ set free i (is_free o) → IsTold (set seats i o) states' hungry' free'
  told-set states' hungry' free' has put_state put_hungry put_free = record {
    states_told = put_state ∙ ap (λ xs. set xs i (state_of_seat o)) told.states_told ∙ sym (map-set state_of_seat seats i o);
    hungry_told = put_hungry;
    free_told = put_free ∙ ap (λ xs. set xs i (is_free o)) told.free_told ∙ sym (map-set is_free seats i o);
    slots_told = each-set HasSlot seats i o told.slots_told has;
  }

  -- a state that is there already needn't be written
  pub same-state : state_of_seat (get_or seats i None) ≡ state_of_seat o → states ≡ set states i (state_of_seat o)
  same-state e = sym (set-get_or states i Thinking) ∙ ap (set states i) (ap (λ xs. get_or xs i Thinking) told.states_told ∙ get_or-map state_of_seat seats i None ∙ e)

  -- nor whether the seat is free
  pub same-free : is_free (get_or seats i None) ≡ is_free o → free ≡ set free i (is_free o)
  same-free e = sym (set-get_or free i true) ∙ ap (set free i) (ap (λ xs. get_or xs i true) told.free_told ∙ get_or-map is_free seats i None ∙ e)

-- ---- at most one seat has a task

-- a test that no seat passes but one
abbrev pub FailsElsewhere : (Diner → Bool) → List (Option Seat) → ℕ → Type 0
FailsElsewhere p seats k = (j : ℕ) (x : Seat) → j ≢ k → get_or seats j None ≡ Some x → p x.diner ≡ false

-- the seat at a place is placed
pub placed_at : (clock slot : ℕ) (seats : List (Option Seat)) (k : ℕ) → ArePlaced clock slot seats → IsPlaced clock (slot + k) (get_or seats k None)
placed_at clock slot [] k h = tt
placed_at clock slot (x ∷ xs) zero h = rw add-zero h.0
placed_at clock slot (x ∷ xs) (suc k) h =
    let same : slot + 1 + k ≡ slot + suc k = omega arith in
    subst (λ n. IsPlaced clock n (get_or xs k None)) same (placed_at clock (slot + 1) xs k h.1)

-- so its task has the place as its slot, and a stamp below the clock
pub placed_seat : (clock : ℕ) (seats : List (Option Seat)) (k : ℕ) (x : Seat) → ArePlaced clock 0 seats → get_or seats k None ≡ Some x → (x.diner.task.slot ≡ k) × (x.stamp < clock)
placed_seat clock seats k x h at =
    let here : IsPlaced clock (0 + k) (Some x) = subst (IsPlaced clock (0 + k)) at (placed_at clock 0 seats k h) in
    let slot : x.diner.task.slot ≡ 0 + k = here.0 in
    (omega arith, here.1)

-- each seat but that at the task's slot has another task
placed_elsewhere : (clock : ℕ) (seats : List (Option Seat)) (u : Task) → ArePlaced clock 0 seats → FailsElsewhere (λ d. same_task d.task u) seats u.slot
placed_elsewhere clock seats u h j x ne at = rw (ne_eqb x.diner.task.slot u.slot (λ e. ne (sym (placed_seat clock seats j x h at).0 ∙ e))) refl

-- ---- a change of one seat

-- the seat, free if its task is u
abbrev pub out_of_seat : Task → Option Seat → Option Seat
out_of_seat u None = None
out_of_seat u (Some seat) = if same_task seat.diner.task u then None else Some seat

-- what changes an order diner by diner as it changes the seats, and leaves the seats of all tasks but u's, is a change of u's seat
module _ (H : List Diner → List Diner) (change : Option Seat → Option Seat) (nil : H [] ≡ []) (joins : (xs ys : List Diner) → H (xs ++ ys) ≡ H xs ++ H ys) (free : change None ≡ None)
    (each : (n : ℕ) (seat : Seat) → H (stamped n (Some seat ∷ [])) ≡ stamped n (change (Some seat) ∷ [])) (u : Task) (others : (x : Seat) → same_task x.diner.task u ≡ false → change (Some x) ≡ Some x) where
  -- so it is with the diners of a stamp
  changed-stamped : (n : ℕ) (xs : List (Option Seat)) → H (stamped n xs) ≡ stamped n (map change xs)
  changed-stamped n [] = nil
  changed-stamped n (None ∷ xs) = changed-stamped n xs ∙ rw free refl
  changed-stamped n (Some x ∷ xs) =
      ap H (filter_map-append (diner_stamped n) (Some x ∷ []) xs) ∙ joins (stamped n (Some x ∷ [])) (stamped n xs)
      ∙ rw (each n x, changed-stamped n xs) (sym (filter_map-append (diner_stamped n) (change (Some x) ∷ []) (map change xs)))

  -- and in the whole order
  changed-by_stamp : (n : ℕ) (xs : List (Option Seat)) → H (by_stamp n xs) ≡ by_stamp n (map change xs)
  changed-by_stamp zero xs = nil
  changed-by_stamp (suc n) xs = joins (by_stamp n xs) (stamped n xs) ∙ rw (changed-by_stamp n xs, changed-stamped n xs) refl

  -- the change of all seats is a write to one
  changed-one : (clock : ℕ) (seats : List (Option Seat)) → ArePlaced clock 0 seats → u.slot < length seats → H (by_stamp clock seats) ≡ by_stamp clock (set seats u.slot (change (get_or seats u.slot None)))
  changed-one clock seats h lt = changed-by_stamp clock seats ∙ ap (by_stamp clock) (ext_get_or None (map change seats) _ (length-map seats change ∙ sym (length-set seats u.slot (change (get_or seats u.slot None)))) (λ k below. ap (λ d. get_or (map change seats) k d) (sym free) ∙ get_or-map change seats k None ∙ elim (cases_eq k u.slot) [
    | inl same ↦ rw same (sym (get_or-set_same seats u.slot (change (get_or seats u.slot None)) None lt))
    | inr apart ↦ stays k apart (get_or seats k None) refl ∙ sym (get_or-set_other seats u.slot k (change (get_or seats u.slot None)) None apart)
  ]))
    where
      stays : (k : ℕ) → k ≢ u.slot → (o : Option Seat) → get_or seats k None ≡ o → change o ≡ o
      stays k apart None at = free
      stays k apart (Some x) at = others x (placed_elsewhere clock seats u h k x apart at)

-- a task that has its seat gets a state
pub with_state-seats : (clock : ℕ) (seats : List (Option Seat)) (s : State) (u : Task) → ArePlaced clock 0 seats → u.slot < length seats → with_state s u (by_stamp clock seats) ≡ by_stamp clock (set seats u.slot (put_in_seat s u (get_or seats u.slot None)))
with_state-seats clock seats s u =
    changed-one (with_state s u) (put_in_seat s u) refl (map-append (diner_put_in s u)) refl (λ n seat. grind arith) u (λ x other. rw other refl) clock seats

-- a task that has its seat leaves
pub without-seats : (clock : ℕ) (seats : List (Option Seat)) (u : Task) → ArePlaced clock 0 seats → u.slot < length seats → without u (by_stamp clock seats) ≡ by_stamp clock (set seats u.slot (out_of_seat u (get_or seats u.slot None)))
without-seats clock seats u =
    changed-one (without u) (out_of_seat u) refl (filter-append (λ d. not (same_task d.task u))) refl (λ n seat. grind arith) u (λ x other. rw other refl) clock seats

-- ---- a seat that is stamped with the clock

-- a seat whose stamp isn't n may as well be free
stamped-set : (n : ℕ) (seats : List (Option Seat)) (i : ℕ) (x : Option Seat) → diner_stamped n x ≡ None → stamped n (set seats i x) ≡ stamped n (set seats i None)
stamped-set n [] i x h = refl
stamped-set n (y ∷ ys) zero x h = rw h refl
stamped-set n (y ∷ ys) (suc i) x h = ap (λ t. cons_option (diner_stamped n y) t) (stamped-set n ys i x h)

-- and so in the order below its stamp
by_stamp-set_above : (n : ℕ) (seats : List (Option Seat)) (i : ℕ) (seat : Seat) → n ≤ seat.stamp → by_stamp n (set seats i (Some seat)) ≡ by_stamp n (set seats i None)
by_stamp-set_above zero seats i seat h = refl
by_stamp-set_above (suc n) seats i seat h =
    let other : eqb seat.stamp n ≡ false = ne_eqb seat.stamp n (λ e. omega arith) in
    ap (λ t. t ++ stamped n (set seats i (Some seat))) (by_stamp-set_above n seats i seat (omega arith))
    ∙ ap (λ t. by_stamp n (set seats i None) ++ t) (stamped-set n seats i (Some seat) (rw other refl))

-- no seat has a stamp that isn't below the clock
stamped-none : (clock slot : ℕ) (seats : List (Option Seat)) → ArePlaced clock slot seats → stamped clock seats ≡ []
stamped-none clock slot [] h = refl
stamped-none clock slot (None ∷ xs) h = stamped-none clock (slot + 1) xs h.1
stamped-none clock slot (Some seat ∷ xs) h = grind (arith, nat_tests, stamped-none clock (slot + 1) xs h.1, h.0.1)

-- the one seat that gets the clock as its stamp
stamped-latest : (clock slot : ℕ) (seats : List (Option Seat)) (i : ℕ) (seat : Seat) → ArePlaced clock slot seats → i < length seats → seat.stamp ≡ clock → stamped clock (set seats i (Some seat)) ≡ seat.diner ∷ []
stamped-latest clock slot [] i seat h lt e = absurd (omega arith)
stamped-latest clock slot (x ∷ xs) zero seat h lt e = rw (eq-eqb seat.stamp clock e) (ap (λ t. seat.diner ∷ t) (stamped-none clock (slot + 1) xs h.1))
stamped-latest clock slot (None ∷ xs) (suc i) seat h lt e = stamped-latest clock (slot + 1) xs i seat h.1 (omega arith) e
stamped-latest clock slot (Some other ∷ xs) (suc i) seat h lt e = grind (arith, nat_tests, stamped-latest clock (slot + 1) xs i seat h.1, h.0.1)

-- a seat that gets the clock as its stamp stands last, and from where it stood before it is gone
pub by_stamp-latest : (clock slot : ℕ) (seats : List (Option Seat)) (i : ℕ) (seat : Seat) → ArePlaced clock slot seats → i < length seats → seat.stamp ≡ clock
    → by_stamp (suc clock) (set seats i (Some seat)) ≡ by_stamp clock (set seats i None) ++ seat.diner ∷ []
by_stamp-latest clock slot seats i seat h lt e =
    ap (λ t. t ++ stamped clock (set seats i (Some seat))) (by_stamp-set_above clock seats i seat (omega arith))
    ∙ ap (λ t. by_stamp clock (set seats i None) ++ t) (stamped-latest clock slot seats i seat h lt e)

-- ---- what the order tells of one seat

-- one free seat gives nobody
pub by_stamp-none : (n : ℕ) → by_stamp n (None ∷ []) ≡ []
by_stamp-none zero = refl
by_stamp-none (suc n) = rw (by_stamp-none n) refl

-- and one that is taken its diner, from the stamp on
pub by_stamp-one : (n : ℕ) (x : Seat) → by_stamp n (Some x ∷ []) ≡ cond (ltb x.stamp n) (x.diner ∷ []) []
by_stamp-one zero x = rw (le-ltb x.stamp 0 (omega arith)) refl
by_stamp-one (suc n) x = grind (arith, nat_tests, by_stamp-one n x)

-- where none passes, nobody of a stamp does
none-stamped : (p : Diner → Bool) (n : ℕ) (seats : List (Option Seat)) → ((j : ℕ) (x : Seat) → get_or seats j None ≡ Some x → p x.diner ≡ false) → filter p (stamped n seats) ≡ []
none-stamped p n [] each = refl
none-stamped p n (None ∷ xs) each = none-stamped p n xs (λ j. each (suc j))
none-stamped p n (Some x ∷ xs) each = let fails = each 0 x refl in let rest = none-stamped p n xs (λ j. each (suc j)) in grind arith

-- where one may pass, of a stamp it alone does
one-stamped : (p : Diner → Bool) (n : ℕ) (seats : List (Option Seat)) (k : ℕ) → FailsElsewhere p seats k → filter p (stamped n seats) ≡ filter p (stamped n (get_or seats k None ∷ []))
one-stamped p n [] k others = refl
one-stamped p n (None ∷ xs) zero others = none-stamped p n xs (λ j x. others (suc j) x (λ e. omega arith))
one-stamped p n (Some y ∷ xs) zero others = let rest = none-stamped p n xs (λ j x. others (suc j) x (λ e. omega arith)) in grind arith
one-stamped p n (None ∷ xs) (suc k) others = one-stamped p n xs k (λ j x ne. others (suc j) x (λ e. ne (omega arith)))
one-stamped p n (Some y ∷ xs) (suc k) others =
    let fails = others 0 y (λ e. omega arith) refl in
    let rest = one-stamped p n xs k (λ j x ne. others (suc j) x (λ e. ne (omega arith))) in
    grind arith

-- and of all
pub one-by_stamp : (p : Diner → Bool) (n : ℕ) (seats : List (Option Seat)) (k : ℕ) → FailsElsewhere p seats k → filter p (by_stamp n seats) ≡ filter p (by_stamp n (get_or seats k None ∷ []))
one-by_stamp p zero seats k others = refl
one-by_stamp p (suc n) seats k others =
    rw (filter-append p (by_stamp n seats) (stamped n seats), one-by_stamp p n seats k others, one-stamped p n seats k others)
    (sym (filter-append p (by_stamp n (get_or seats k None ∷ [])) (stamped n (get_or seats k None ∷ []))))

-- ---- the state of a task is that in its seat

-- what a task's diners tell of its state
state_in-filter : (order : List Diner) (u : Task) → state_in (filter (λ d. same_task d.task u) order) u ≡ state_in order u
state_in-filter [] u = refl
state_in-filter (d ∷ ds) u = grind (arith, state_in-filter ds u)

-- below a stamp a task has the state that its seat alone tells
state_in-below : (clock n : ℕ) (seats : List (Option Seat)) (u : Task) → ArePlaced clock 0 seats → state_in (by_stamp n seats) u ≡ state_in (by_stamp n (get_or seats u.slot None ∷ [])) u
state_in-below clock n seats u h =
    sym (state_in-filter (by_stamp n seats) u) ∙ ap (λ ds. state_in ds u) (one-by_stamp (λ d. same_task d.task u) n seats u.slot (placed_elsewhere clock seats u h))
    ∙ state_in-filter (by_stamp n (get_or seats u.slot None ∷ [])) u

-- and so a task has the state that its seat tells
pub state_in-by_stamp : (clock : ℕ) (seats : List (Option Seat)) (u : Task) → ArePlaced clock 0 seats → state_in (by_stamp clock seats) u ≡ state_at seats u
state_in-by_stamp clock seats u h = state_in-below clock clock seats u h ∙ whole (get_or seats u.slot None) (placed_at clock 0 seats u.slot h)
  where
    whole : (x : Option Seat) → IsPlaced clock (0 + u.slot) x → state_in (by_stamp clock (x ∷ [])) u ≡ state_in_seat u x
    whole None p = rw (by_stamp-none clock) refl
    whole (Some seat) p = rw (by_stamp-one clock seat, lt-ltb seat.stamp clock p.1) refl

-- ---- whole calls on the order

-- a task that has its seat is stamped with the clock, thinking
pub moved_last-seats : (clock : ℕ) (seats : List (Option Seat)) (u : Task) (seat : Seat) → ArePlaced clock 0 seats → u.slot < length seats → get_or seats u.slot None ≡ Some seat → same_task seat.diner.task u ≡ true
    → moved_last u (by_stamp clock seats) ≡ by_stamp (suc clock) (set seats u.slot (Some record { diner = record { task = u; state = Thinking }; stamp = clock }))
moved_last-seats clock seats u seat h lt at same =
    let last : Seat = record { diner = record { task = u; state = Thinking }; stamp = clock } in
    let gone : out_of_seat u (get_or seats u.slot None) ≡ None = rw (at, same) refl in
    ap (λ t. t ++ last.diner ∷ []) (without-seats clock seats u h lt ∙ ap (λ x. by_stamp clock (set seats u.slot x)) gone)
    ∙ sym (by_stamp-latest clock 0 seats u.slot last h lt refl)

-- ---- stamps tell the order

-- once b has come, nothing later counts
stands_before-found : (xs ys : List Diner) (a b : Task) → is_some (state_in xs b) ≡ true → stands_before (xs ++ ys) a b ≡ stands_before xs a b
stands_before-found [] ys a b h = absurd (let k : false ≡ true = h in cc)
stands_before-found (x ∷ xs) ys a b h = grind (arith, stands_before-found xs ys a b)

-- who isn't there stands before nobody
pub stands_before-absent : (xs : List Diner) (a b : Task) → state_in xs a ≡ None → stands_before xs a b ≡ false
stands_before-absent [] a b h = refl
stands_before-absent (x ∷ xs) a b h = grind (arith, stands_before-absent xs a b)

-- who is there stands before who isn't
pub stands_before-first : (xs ys : List Diner) (a b : Task) → is_some (state_in xs a) ≡ true → state_in xs b ≡ None → stands_before (xs ++ ys) a b ≡ true
stands_before-first [] ys a b h k = absurd (let w : false ≡ true = h in cc)
stands_before-first (x ∷ xs) ys a b h k = grind (arith, stands_before-first xs ys a b)

-- of two tasks in their seats, the one with the lower stamp stands before the other
pub stands_before-by_stamp : (clock n : ℕ) (seats : List (Option Seat)) (a b : Task) (x y : Seat) → ArePlaced clock 0 seats → get_or seats a.slot None ≡ Some x → get_or seats b.slot None ≡ Some y → same_task x.diner.task a ≡ true → same_task y.diner.task b ≡ true
    → x.stamp ≢ y.stamp → x.stamp < n → y.stamp < n → stands_before (by_stamp n seats) a b ≡ ltb x.stamp y.stamp
stands_before-by_stamp clock zero seats a b x y h ha hb sa sb ne la lb = absurd (omega arith)
stands_before-by_stamp clock (suc n) seats a b x y h ha hb sa sb ne la lb =
    elim (cases_lt y.stamp n) [
      | inl below_b ↦ stands_before-found (by_stamp n seats) (stamped n seats) a b (ap is_some (seated b y hb sb below_b)) ∙ elim (cases_lt x.stamp n) [
        | inl below_a ↦ stands_before-by_stamp clock n seats a b x y h ha hb sa sb ne below_a below_b
        | inr at_a ↦ stands_before-absent (by_stamp n seats) a b (not_yet a x ha at_a) ∙ sym (le-ltb x.stamp y.stamp (omega arith))
      ]
      | inr at_b ↦ elim (cases_lt x.stamp n) [
        | inl below_a ↦ stands_before-first (by_stamp n seats) (stamped n seats) a b (ap is_some (seated a x ha sa below_a)) (not_yet b y hb at_b) ∙ sym (lt-ltb x.stamp y.stamp (omega arith))
        | inr at_a ↦ absurd (ne (omega arith))
      ]
    ]
  where
    seated : (u : Task) (z : Seat) → get_or seats u.slot None ≡ Some z → same_task z.diner.task u ≡ true → z.stamp < n → state_in (by_stamp n seats) u ≡ Some z.diner.state
    seated u z at same below = state_in-below clock n seats u h ∙ rw (at, by_stamp-one n z, lt-ltb z.stamp n below, same) refl

    not_yet : (u : Task) (z : Seat) → get_or seats u.slot None ≡ Some z → n ≤ z.stamp → state_in (by_stamp n seats) u ≡ None
    not_yet u z at above = state_in-below clock n seats u h ∙ rw (at, by_stamp-one n z, le-ltb z.stamp n above) refl
