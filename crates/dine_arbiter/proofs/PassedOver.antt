-- The earliest of the seats at the slots that a search finds is that of the next ready task.
use Rattle.dine_arbiter.proofs.Words.{◌≡◌, ℕ, ◌+◌, ◌==◌, ◌<◌, ◌≤◌, ◌⊎◌, [], zero, suc, Bool, true, false, ◌&&◌, cond, List, ◌∷◌, length, get_or, map, Option, Some, None, IsSome, is_some, ltb, inl, inr, refl, sym, ap, ◌∙◌, arith, AllByRecursion, filter, list_any, range_with_len, option_map, cases_Bool, cases_cond, cases_eq, eq-eqb, eqb-true, true≢false, nat_tests, length-map, is_found, is_ready, next_ready_of, same_task, state_of, next_ready-ready, same_task-refl, same_task-true, next_ready-first, next_ready-none, first_member, Arbiter, is_ready_slot, ready_slots, hungry_slots, is_hungry, Task, State, Hungry, Seat, first_free, is_free, is_stamped_before, state_in_seat, state_of_seat}
use Rattle.dine_arbiter.proofs.AllReady.{found-ready}
use Rattle.dine_arbiter.specs.declared.arbiter.Arbiter.TheInside.{Inside}
use Rattle.dine_arbiter.proofs.After.{seen_before, seen_by_slot}
use Rattle.dine_arbiter.proofs.Kept.{IsKeptIn, seen}
use Rattle.dine_arbiter.proofs.Seated.{placed_seat}
use Rattle.dine_arbiter.proofs.Seating.{in_range}

-- ---- the first free seat

-- the first free seat is the first member of the free slots
pub first_free_member : (seats : List (Option Seat)) → first_member 0 (map is_free seats) ≡ first_free seats
first_free_member (Some seat ∷ xs) = let k : first_member 0 (map is_free xs) ≡ first_free xs = first_free_member xs in omega arith
first_free_member xs = refl

-- a seat in which a task has a state is that task's
pub seat_is : (u : Task) (x : Seat) → IsSome (state_in_seat u (Some x)) → x.diner.task ≡ u
seat_is u x h = elim (cases_Bool (same_task x.diner.task u)) [ inl e ↦ same_task-true x.diner.task u e | inr e ↦ absurd (let k : false ≡ true = rw e at h in cc) ]

-- ---- one seat more

-- what is found once a seat is looked at
abbrev next_found : Option Seat → Option Seat → Option Seat
next_found o e = cond (is_stamped_before o e) o e

-- it is as early as what was found
next-stays : (o e : Option Seat) (x : Seat) → is_stamped_before (Some x) e ≡ false → is_stamped_before (Some x) (next_found o e) ≡ false
next-stays None e x h = h
next-stays (Some s) None x h = absurd (let w : true ≡ false = h in cc)
next-stays (Some s) (Some y) x h = grind (arith, nat_tests)

-- and as early as the seat
next-seat : (e : Option Seat) (x : Seat) → is_stamped_before (Some x) (next_found (Some x) e) ≡ false
next-seat None x = grind (arith, nat_tests)
next-seat (Some y) x = grind (arith, nat_tests)

-- ---- the earliest of the seats at some slots

module _ (seats : List (Option Seat)) where
  -- what is found of them, once that much was found
  abbrev pub earliest_of : Option Seat → List ℕ → Option Seat
  earliest_of e [] = e
  earliest_of e (k ∷ ks) = earliest_of (next_found (get_or seats k None) e) ks

  -- it is as early as what was found
  stays_early : (ks : List ℕ) (e : Option Seat) (x : Seat) → is_stamped_before (Some x) e ≡ false → is_stamped_before (Some x) (earliest_of e ks) ≡ false
  stays_early [] e x h = h
  stays_early (k ∷ ks) e x h = stays_early ks (next_found (get_or seats k None) e) x (next-stays (get_or seats k None) e x h)

  -- and as early as each of them
  early_as_each : (ks : List ℕ) (e : Option Seat) (k : ℕ) (x : Seat) → list_any (λ j. j == k) ks ≡ true → get_or seats k None ≡ Some x → is_stamped_before (Some x) (earliest_of e ks) ≡ false
  early_as_each [] e k x h at = absurd (true≢false (sym h))
  early_as_each (j ∷ ks) e k x h at = elim (cases_Bool (j == k)) [
    | inl same ↦
        let here : get_or seats j None ≡ Some x = ap (λ n. get_or seats n None) (eqb-true j k same) ∙ at in
        stays_early ks (next_found (get_or seats j None) e) x (rw here (next-seat e x))
    | inr apart ↦ early_as_each ks (next_found (get_or seats j None) e) k x (rw apart at h) at
  ]

  -- it was found, or is at one of them, of which each passes a test
  is_one : (p : ℕ → Bool) (ks : List ℕ) (e : Option Seat) (x : Seat) → AllByRecursion (λ k. p k ≡ true) ks → earliest_of e ks ≡ Some x → (e ≡ Some x) ⊎ ((k : ℕ) × (get_or seats k None ≡ Some x) × (p k ≡ true))
  is_one p [] e x h found = inl found
  is_one p (k ∷ ks) e x h found = elim (is_one p ks (next_found (get_or seats k None) e) x h.1 found) [
    | inl before ↦ elim (cases_cond (is_stamped_before (get_or seats k None) e) (get_or seats k None) e (Some x) (sym before)) [
      | inl here ↦ inr (k, sym here, h.0)
      | inr stays ↦ inl (sym stays)
    ]
    | inr later ↦ inr later
  ]

-- numbers that a test chooses pass it
all_chosen : (p : ℕ → Bool) (ks : List ℕ) → AllByRecursion (λ k. p k ≡ true) (filter p ks)
all_chosen p [] = tt
all_chosen p (k ∷ ks) = elim (cases_Bool (p k)) [ inl e ↦ rw e (e, all_chosen p ks) | inr e ↦ rw e (all_chosen p ks) ]

-- and each of a range that passes is chosen
chosen : (p : ℕ → Bool) (k a n : ℕ) → p k ≡ true → a ≤ k → k < a + n → list_any (λ j. j == k) (filter p (range_with_len a n)) ≡ true
chosen p k a zero h lo hi = absurd (omega arith)
chosen p k a (suc n) h lo hi = elim (cases_eq a k) [
  | inl same ↦ rw (same, h, eq-eqb k k refl) refl
  | inr apart ↦
      let rest = chosen p k (a + 1) n h (omega arith) (omega arith) in
      elim (cases_Bool (p a)) [ inl e ↦ rw (e, rest) (grind arith) | inr e ↦ rw e rest ]
]

-- ---- the ready task whose last meal is the earliest

-- what was found is the seat of a ready task, and no ready task has an earlier stamp
record Finds (ready : Task → Bool) (seats : List (Option Seat)) (found : Option Seat) : Type 0 where
  asked_for : (x : Seat) → found ≡ Some x → (k : ℕ) × (get_or seats k None ≡ Some x) × (ready x.diner.task ≡ true)
  earliest : (k : ℕ) (x : Seat) → get_or seats k None ≡ Some x → ready x.diner.task ≡ true → is_stamped_before (Some x) found ≡ false

module _ (a : Inside) {v : Arbiter} (is : seen a ≡ v) (kept : IsKeptIn a) where
  -- whoever is ready has its seat
  seat_of_ready : (w : Task) → is_ready v.table w ≡ true → (x : Seat) × (get_or a.seats w.slot None ≡ Some x) × (x.diner.task ≡ w)
  seat_of_ready w ready = seen_by_slot a is kept w.slot w refl (some (state_of v.table w) _ ready)
    where
      some : (o : Option State) (b : Bool) → (is_found Hungry o && b) ≡ true → is_some o ≡ true
      some None b h = h
      some (Some s) b h = refl

  -- what a search has found that leaves no slot open is the ready task that comes first
  found-next : (found : Option Seat) → Finds (is_ready v.table) a.seats found → (next : Option Task) → next_ready_of v.table ≡ next → option_map (λ (s : Seat). s.diner.task) found ≡ next
  found-next None f None e = refl
  found-next (Some best) f None e = let (k, at, wanted) = f.asked_for best refl in absurd (true≢false (sym wanted ∙ next_ready-none v.table best.diner.task e))
  found-next None f (Some w) e =
      let ready = next_ready-ready v.table w e in
      let (x, at, here) = seat_of_ready w ready in
      absurd (true≢false (f.earliest w.slot x at (ap (is_ready v.table) here ∙ ready)))
  found-next (Some best) f (Some w) e =
      let ready = next_ready-ready v.table w e in
      let (x, at, here) = seat_of_ready w ready in
      let (k, at_k, wanted) = f.asked_for best refl in
      let at_best : get_or a.seats best.diner.task.slot None ≡ Some best = ap (λ n. get_or a.seats n None) (placed_seat a.clock a.seats k best kept.placed at_k).0 ∙ at_k in
      let is_w : same_task x.diner.task w ≡ true = ap (λ u. same_task u w) here ∙ same_task-refl w in
      let no_later = f.earliest w.slot x at (ap (is_ready v.table) here ∙ ready) in
      let no_earlier : ltb best.stamp x.stamp ≡ false = rw (at_best, at, same_task-refl best.diner.task, is_w) at (seen_before a is kept best.diner.task w ∙ next_ready-first v.table w best.diner.task e wanted) in
      let stamps : best.stamp ≡ x.stamp = grind (arith, nat_tests) in
      let seats : Some best ≡ Some x = sym at_best ∙ ap (λ n. get_or a.seats n None) (kept.stamps_differ best.diner.task.slot w.slot best x at_best at stamps) ∙ at in
      ap (option_map (λ (s : Seat). s.diner.task)) seats ∙ ap (λ (u : Task). Some u) here

  -- so it is of the slots that a search finds
  all_found : option_map (λ (s : Seat). s.diner.task) (earliest_of a.seats None (ready_slots (hungry_slots a.seats) a.book)) ≡ next_ready_of v.table
  all_found = found-next (earliest_of a.seats None slots) record {
    asked_for = λ x found. elim (is_one a.seats found_at slots None x (all_chosen found_at ks) found) [
      | inl none ↦ absurd (let w : None ≡ Some x = none in cc)
      | inr (k, at, is_found) ↦ (k, at, found-ready a is kept k x at ∙ is_found)
    ];
    earliest = λ k x at ready.
        let below = in_range a.seats k x at in
        let seats : length (hungry_slots a.seats) ≡ length a.seats = length-map (map state_of_seat a.seats) is_hungry ∙ length-map a.seats state_of_seat in
        early_as_each a.seats slots None k x (chosen found_at k 0 (length (hungry_slots a.seats)) (sym (found-ready a is kept k x at) ∙ ready) (omega arith) (omega arith)) at;
  } _ refl
    where
      found_at : ℕ → Bool
      found_at k = is_ready_slot (hungry_slots a.seats) a.book k

      ks : List ℕ
      ks = range_with_len 0 (length (hungry_slots a.seats))

      slots : List ℕ
      slots = ready_slots (hungry_slots a.seats) a.book

  -- and once none is left
  pub search_ends : (hungry : List Bool) → hungry ≡ hungry_slots a.seats → (left : List ℕ) → left ≡ [] → (e found : Option Seat)
      → earliest_of a.seats e left ≡ earliest_of a.seats None (ready_slots hungry a.book) → e ≡ found → option_map (λ (s : Seat). s.diner.task) found ≡ next_ready_of v.table
  search_ends hungry told left nothing e found all is_found =
      ap (option_map (λ (s : Seat). s.diner.task)) (sym is_found ∙ sym (ap (earliest_of a.seats e) nothing) ∙ all ∙ ap (λ hs. earliest_of a.seats None (ready_slots hs a.book)) told) ∙ all_found
