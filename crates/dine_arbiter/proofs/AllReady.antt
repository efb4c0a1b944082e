-- The tasks at the slots that a search finds are all that may begin, once they are in the order of their stamps.
use Rattle.dine_arbiter.proofs.Words.{◌≡◌, ℕ, zero, suc, ◌+◌, ◌==◌, ◌<◌, ◌≤◌, nat_lt, Bool, true, false, ◌&&◌, cond, List, [], ◌∷◌, ◌++◌, length, get_or, map, Option, Some, None, inl, inr, refl, sym, ap, ◌∙◌, subst, arith, All, AllByRecursion, filter, filter_map, range_with_len, IsNonDecreasingBy, IsPermutation, get_or-map, cases_Bool, cases_eq, cases_lt, eq-eqb, eqb-true, le-ltb, lt-ltb, ne_eqb, length-map, map-append, filter-append, recursion_from_All, All-from_recursion, All-permutation, sum_by-IsPermutation, length-filter, Table, is_ready, state_of, ready_of, same_task-refl, Arbiter, hungry_slots, is_hungry, holds_all_at, is_ready_slot, ready_slots, Task, State, Thinking, Hungry, Eating, Seat, by_stamp, diner_stamped, stamp_at, stamped, state_of_seat, task_at}
use Rattle.dine_arbiter.specs.declared.arbiter.Arbiter.TheInside.{Inside}
use Rattle.dine_arbiter.proofs.After.{seen_ready, seen_state, table_is}
use Rattle.dine_arbiter.proofs.Kept.{IsKeptIn, seen}
use Rattle.dine_arbiter.proofs.Seated.{placed_seat}

-- ---- a list that is in order

module _ {X : Type 0} (n : X → ℕ) where
  -- those below a number are none where all are at least that
  none_below : (m : ℕ) (xs : List X) → ((k : ℕ) (d : X) → k < length xs → m ≤ n (get_or xs k d)) → filter (λ x. nat_lt (n x) m) xs ≡ []
  none_below m [] h = refl
  none_below m (x ∷ xs) h = rw (le-ltb (n x) m (h 0 x (omega arith))) (none_below m xs (λ k d lt. h (suc k) d (omega arith)))

  -- those below the next number are those below the number, and then those of it
  below_next : (m : ℕ) (xs : List X) → IsNonDecreasingBy n xs → filter (λ x. nat_lt (n x) (suc m)) xs ≡ filter (λ x. nat_lt (n x) m) xs ++ filter (λ x. n x == m) xs
  below_next m [] h = refl
  below_next m (x ∷ xs) h =
      let rest = below_next m xs (λ i j d low lt. h (suc i) (suc j) d (omega arith) (omega arith)) in
      let least : (k : ℕ) (d : X) → k < length xs → n x ≤ n (get_or xs k d) = λ k d lt. h 0 (suc k) d (omega arith) (omega arith) in
      elim (cases_lt (n x) m) [
        | inl below ↦ rw (lt-ltb (n x) (suc m) (omega arith), lt-ltb (n x) m below, ne_eqb (n x) m (λ e. omega arith)) (ap (λ ys. x ∷ ys) rest)
        | inr above ↦ elim (cases_eq (n x) m) [
          | inl here ↦
              let none : filter (λ y. nat_lt (n y) m) xs ≡ [] = none_below m xs (λ k d lt. let low = least k d lt in omega arith) in
              rw (lt-ltb (n x) (suc m) (omega arith), le-ltb (n x) m above, eq-eqb (n x) m here, none) (ap (λ ys. x ∷ ys) (rest ∙ rw none refl))
          | inr apart ↦
              let none : filter (λ y. nat_lt (n y) m) xs ≡ [] = none_below m xs (λ k d lt. let low = least k d lt in omega arith) in
              rw (le-ltb (n x) (suc m) (omega arith), le-ltb (n x) m above, ne_eqb (n x) m apart) rest
        ]
      ]

  -- all are below a number that is more than each
  all_below : (m : ℕ) (xs : List X) → AllByRecursion (λ x. n x < m) xs → filter (λ x. nat_lt (n x) m) xs ≡ xs
  all_below m [] h = refl
  all_below m (x ∷ xs) h = rw (lt-ltb (n x) m h.0) (ap (λ ys. x ∷ ys) (all_below m xs h.1))

-- ---- a list in another order

-- lists of the same length are the same where what holds of each element holds of one thing alone
all_one : {X : Type 0} (P : X → Type 0) → ((x y : X) → P x → P y → x ≡ y) → (xs ys : List X) → AllByRecursion P xs → AllByRecursion P ys → length xs ≡ length ys → xs ≡ ys
all_one P same [] [] h k e = refl
all_one P same (x ∷ xs) (y ∷ ys) h k e = ap (λ zs. x ∷ zs) (all_one P same xs ys h.1 k.1 (omega arith)) ∙ ap (λ z. z ∷ ys) (same x y h.0 k.0)
all_one P same [] (y ∷ ys) h k e = absurd (omega arith)
all_one P same (x ∷ xs) [] h k e = absurd (omega arith)

-- those that pass a test have passed it
filter-passed : {X : Type 0} (P : X → Type 0) (p : X → Bool) (xs : List X) → AllByRecursion P xs → AllByRecursion (λ x. P x × (p x ≡ true)) (filter p xs)
filter-passed P p [] h = tt
filter-passed P p (x ∷ xs) h = elim (cases_Bool (p x)) [
  | inl e ↦ rw e ((h.0, e), filter-passed P p xs h.1)
  | inr e ↦ rw e (filter-passed P p xs h.1)
]

-- a test that one thing alone passes chooses the same of a list in another order
same_chosen : {X : Type 0} (P : X → Type 0) (p : X → Bool) → ((x y : X) → P x × (p x ≡ true) → P y × (p y ≡ true) → x ≡ y) → (xs ys : List X) → AllByRecursion P xs → IsPermutation xs ys → filter p ys ≡ filter p xs
same_chosen P p same xs ys h moved =
    let there = recursion_from_All P ys (All-permutation P xs ys moved (All-from_recursion P xs h)) in
    let counts = sum_by-IsPermutation (λ x. cond (p x) 1 0) xs ys moved in
    all_one (λ x. P x × (p x ≡ true)) same (filter p ys) (filter p xs) (filter-passed P p ys there) (filter-passed P p xs h) (length-filter p ys ∙ counts ∙ sym (length-filter p xs))

-- ---- seats, by their slots

-- what is read of each seat is read slot by slot
by_slots : (m : ℕ) (f : ℕ → Option Seat) (xs : List (Option Seat)) (a : ℕ) → ((k : ℕ) → f (a + k) ≡ get_or xs k None) → stamped m xs ≡ filter_map (λ k. diner_stamped m (f k)) (range_with_len a (length xs))
by_slots m f [] a h = refl
by_slots m f (x ∷ xs) a h =
    let first : f a ≡ x = (let same : a + 0 ≡ a = omega arith in ap f (sym same) ∙ h 0) in
    let rest = by_slots m f xs (a + 1) (λ k. let same : a + 1 + k ≡ a + suc k = omega arith in ap f same ∙ h (suc k)) in
    rw (first, rest) refl

module _ (a : Inside) {v : Arbiter} (is : seen a ≡ v) (kept : IsKeptIn a) where
  -- the slots that a search goes by
  abbrev found_at : ℕ → Bool
  found_at k = is_ready_slot (hungry_slots a.seats) a.book k

  -- the task in a seat is ready exactly where a search finds its slot
  pub found-ready : (k : ℕ) (x : Seat) → get_or a.seats k None ≡ Some x → is_ready v.table x.diner.task ≡ found_at k
  found-ready k x at =
      let slot : x.diner.task.slot ≡ k = (placed_seat a.clock a.seats k x kept.placed at).0 in
      let there : get_or a.seats x.diner.task.slot None ≡ Some x = ap (λ n. get_or a.seats n None) slot ∙ at in
      let state : state_of v.table x.diner.task ≡ Some x.diner.state = sym (seen_state a is kept x.diner.task) ∙ rw (there, same_task-refl x.diner.task) refl in
      let hungry_there = get_or-map is_hungry (map state_of_seat a.seats) k Thinking ∙ ap is_hungry (get_or-map state_of_seat a.seats k None ∙ ap state_of_seat at) in
      by_state x.diner.task x.diner.state state ∙ rw (slot, hungry_there) refl
    where
      by_state : (u : Task) (s : State) → state_of v.table u ≡ Some s → is_ready v.table u ≡ (is_hungry s && holds_all_at a.book u.slot)
      by_state u Thinking h = rw h refl
      by_state u Hungry h = sym (seen_ready a is kept u h)
      by_state u Eating h = rw h refl

  -- it finds no free seat
  pub found-taken : (k : ℕ) → get_or a.seats k None ≡ None → found_at k ≡ false
  found-taken k at =
      let idle = get_or-map is_hungry (map state_of_seat a.seats) k Thinking ∙ ap is_hungry (get_or-map state_of_seat a.seats k None ∙ ap state_of_seat at) in
      rw idle refl

  -- the stamp of a task
  abbrev stamp : Task → ℕ
  stamp u = stamp_at a.seats u.slot

  -- the task has its seat
  abbrev IsSeated : Task → Type 0
  IsSeated u = (x : Seat) × (get_or a.seats u.slot None ≡ Some x) × (x.diner.task ≡ u)

  -- those found that have a stamp are the ready ones that have it, slot by slot, and all that are found have their seats
  abbrev SameStamped : ℕ → List ℕ → Type 0
  SameStamped m ks =
      (filter (λ u. stamp u == m) (map (task_at a.seats) (filter found_at ks)) ≡ map (λ d. d.task) (filter (λ d. is_ready v.table d.task) (filter_map (λ k. diner_stamped m (get_or a.seats k None)) ks)))
      × AllByRecursion IsSeated (map (task_at a.seats) (filter found_at ks))

  -- so with one slot more
  one_more : (m k : ℕ) (ks : List ℕ) (o : Option Seat) → get_or a.seats k None ≡ o → SameStamped m ks → SameStamped m (k ∷ ks)
  one_more m k ks None at rest = rw (found-taken k at, at) rest
  one_more m k ks (Some x) at rest =
      let slot : x.diner.task.slot ≡ k = (placed_seat a.clock a.seats k x kept.placed at).0 in
      let own : stamp x.diner.task ≡ x.stamp = rw (slot, at) refl in
      let there : IsSeated x.diner.task = (x, ap (λ n. get_or a.seats n None) slot ∙ at, refl) in
      elim (cases_Bool (found_at k)) [
        | inl found ↦ elim (cases_Bool (x.stamp == m)) [
          | inl here ↦ rw (found, at, own, here, found-ready k x at, found) (ap (λ us. x.diner.task ∷ us) rest.0, (there, rest.1))
          | inr other ↦ rw (found, at, own, other) (rest.0, (there, rest.1))
        ]
        | inr lacks ↦ elim (cases_Bool (x.stamp == m)) [
          | inl here ↦ rw (lacks, at, here, found-ready k x at, lacks) rest
          | inr other ↦ rw (lacks, at, other) rest
        ]
      ]

  -- and with all
  same_stamped : (m : ℕ) (ks : List ℕ) → SameStamped m ks
  same_stamped m [] = (refl, tt)
  same_stamped m (k ∷ ks) = one_more m k ks (get_or a.seats k None) refl (same_stamped m ks)

  -- no two have one stamp
  one_stamped : (m : ℕ) (u w : Task) → IsSeated u × ((stamp u == m) ≡ true) → IsSeated w × ((stamp w == m) ≡ true) → u ≡ w
  one_stamped m u w ((x, at_u, is_u), here_u) ((y, at_w, is_w), here_w) =
      let one : x.stamp ≡ m = rw at_u at (eqb-true (stamp u) m here_u) in
      let other : y.stamp ≡ m = rw at_w at (eqb-true (stamp w) m here_w) in
      let slots = kept.stamps_differ u.slot w.slot x y at_u at_w (one ∙ sym other) in
      let both : Some x ≡ Some y = sym at_u ∙ ap (λ n. get_or a.seats n None) slots ∙ at_w in
      let seats : x ≡ y = cc in
      sym is_u ∙ ap (λ (s : Seat). s.diner.task) seats ∙ is_w

  module _ (found sorted : List Task) (are : found ≡ map (task_at a.seats) (ready_slots (hungry_slots a.seats) a.book)) (moved : IsPermutation found sorted) (rises : IsNonDecreasingBy stamp sorted) where
    -- so the sorted tasks with one stamp are those found
    sorted-stamped : (m : ℕ) → filter (λ u. stamp u == m) sorted ≡ map (λ d. d.task) (filter (λ d. is_ready v.table d.task) (stamped m a.seats))
    sorted-stamped m =
        let seats : length (hungry_slots a.seats) ≡ length a.seats = length-map (map state_of_seat a.seats) is_hungry ∙ length-map a.seats state_of_seat in
        let ks = range_with_len 0 (length (hungry_slots a.seats)) in
        let seated : AllByRecursion IsSeated found = subst (AllByRecursion IsSeated) (sym are) (same_stamped m ks).1 in
        let slots : stamped m a.seats ≡ filter_map (λ k. diner_stamped m (get_or a.seats k None)) ks = by_slots m (λ k. get_or a.seats k None) a.seats 0 (λ k. let same : 0 + k ≡ k = omega arith in ap (λ n. get_or a.seats n None) same) ∙ ap (λ n. filter_map (λ k. diner_stamped m (get_or a.seats k None)) (range_with_len 0 n)) (sym seats) in
        same_chosen IsSeated (λ u. stamp u == m) (one_stamped m) found sorted seated moved ∙ ap (filter (λ u. stamp u == m)) are ∙ (same_stamped m ks).0 ∙ ap (λ ds. map (λ d. d.task) (filter (λ d. is_ready v.table d.task) ds)) (sym slots)

    -- and those below a stamp are the ready ones in the order up to there
    sorted-below : (m : ℕ) → filter (λ u. nat_lt (stamp u) m) sorted ≡ map (λ d. d.task) (filter (λ d. is_ready v.table d.task) (by_stamp m a.seats))
    sorted-below zero = none_below stamp 0 sorted (λ k d lt. omega arith)
    sorted-below (suc m) =
        below_next stamp m sorted rises
        ∙ rw (sorted-below m, sorted-stamped m) (sym (ap (map (λ d. d.task)) (filter-append (λ d. is_ready v.table d.task) (by_stamp m a.seats) (stamped m a.seats)) ∙ map-append (λ d. d.task) (filter (λ d. is_ready v.table d.task) (by_stamp m a.seats)) (filter (λ d. is_ready v.table d.task) (stamped m a.seats))))

    -- so they are all that may begin
    pub all_ready : sorted ≡ ready_of v.table
    all_ready =
        let seated : All IsSeated found = All-from_recursion IsSeated found (subst (AllByRecursion IsSeated) (sym are) (same_stamped 0 (range_with_len 0 (length (hungry_slots a.seats)))).1) in
        let low = below sorted (recursion_from_All IsSeated sorted (All-permutation IsSeated found sorted moved seated)) in
        sym (all_below stamp a.clock sorted low) ∙ sorted-below a.clock ∙ ap (λ (t : Table). map (λ d. d.task) (filter (λ d. is_ready v.table d.task) t.order)) (table_is a is kept)
      where
        below : (us : List Task) → AllByRecursion IsSeated us → AllByRecursion (λ u. stamp u < a.clock) us
        below [] h = tt
        below (u ∷ us) ((x, at, is_u), h) = (let lt = (placed_seat a.clock a.seats u.slot x kept.placed at).1 in rw at lt, below us h)
