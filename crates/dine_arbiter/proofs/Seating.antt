-- Records between slots are the conflicts between the tasks in them.
use Rattle.dine_arbiter.proofs.Words.{◌≡◌, ℕ, zero, suc, ◌+◌, ◌<◌, Bool, true, false, not, cond, eqb, List, [], ◌∷◌, length, get_or, set, map, Option, Some, None, is_some, inl, inr, refl, sym, ap, ◌∙◌, subst, arith, add-zero, get_or-set_same, get_or-set_other, AllByRecursion, filter, sum_by, list_all, and_parts, cases_Bool, eqb-true, eqb-false, or_parts, get_or_past, sum_by-cons, same_task, state_in, has_end, is_between, neighbours_in, EndsPresent, diner_put_in-task, same_task-refl, same_task-true, dirtied_at, SettlesEnd, SettlesAround, dirtied_around, withdrawn_around, withdrawal_messages_around, forks_kept, Task, State, Seat, by_stamp, state_at, IsPlaced, ArePlaced, put_in_seat, state_in_seat, task_in_seat, task_at, state_of_seat, seat_state, ForkRecord, conflict_of, neighbour_at, withdrawn_at, withdrawal_messages_of, settles, walked_at, Reach, forks_of}
use Rattle.dine_forks.specs.Book.{changed_where, is_end, slot_list, is_between as is_between_slots}
use Rattle.dine_arbiter.specs.Records.{Fork}
use Rattle.dine_arbiter.proofs.SlotEdges.{is_lawful_beside}
use Rattle.dine_arbiter.proofs.SlotWalks.{Comes, settling_cost, sum-one, walk_costs, walk_settles}
use Rattle.dine_arbiter.proofs.Seated.{placed_at, state_in-by_stamp}

-- ---- the task in a seat

-- the task at a slot has the slot
pub slot-task_at : (clock : ℕ) (seats : List (Option Seat)) (s : ℕ) → ArePlaced clock 0 seats → (task_at seats s).slot ≡ s
slot-task_at clock seats s h = go (get_or seats s None) (placed_at clock 0 seats s h)
  where
    go : (o : Option Seat) → IsPlaced clock (0 + s) o → (task_in_seat s o).slot ≡ s
    go None p = refl
    go (Some seat) p = let e : seat.diner.task.slot ≡ 0 + s = p.0 in omega arith

-- its state in the order is that in the seat
pub state_at_slot : (clock : ℕ) (seats : List (Option Seat)) (s : ℕ) → ArePlaced clock 0 seats → state_in (by_stamp clock seats) (task_at seats s) ≡ state_in_seat (task_at seats s) (get_or seats s None)
state_at_slot clock seats s h = state_in-by_stamp clock seats (task_at seats s) h ∙ ap (λ k. state_in_seat (task_at seats s) (get_or seats k None)) (slot-task_at clock seats s h)

-- so a task that is present and in a seat has the seat's state
pub state_in-task_at : (clock : ℕ) (seats : List (Option Seat)) (s : ℕ) → ArePlaced clock 0 seats → is_some (state_in (by_stamp clock seats) (task_at seats s)) ≡ true → state_in (by_stamp clock seats) (task_at seats s) ≡ Some (seat_state seats s)
state_in-task_at clock seats s h some =
    let found = state_at_slot clock seats s h in
    found ∙ go (get_or seats s None) (sym (ap is_some found) ∙ some)
  where
    go : (o : Option Seat) → is_some (state_in_seat (task_in_seat s o) o) ≡ true → state_in_seat (task_in_seat s o) o ≡ Some (state_of_seat o)
    go None some = absurd (let k : false ≡ true = some in cc)
    go (Some seat) some = rw (same_task-refl seat.diner.task) refl

-- ---- the records that a test leaves

-- a test of conflicts that is one of their records leaves the same conflicts
pub conflicts_left : (seats : List (Option Seat)) (p : Task × Task → Bool) (q : ForkRecord → Bool) → ((r : ForkRecord) → p (conflict_of seats r) ≡ q r) → (rs : List ForkRecord)
    → filter (λ c. not (p c)) (map (conflict_of seats) rs) ≡ map (conflict_of seats) (filter (λ r. not (q r)) rs)
conflicts_left seats p q same [] = refl
conflicts_left seats p q same (r ∷ rs) = grind (arith, same r, conflicts_left seats p q same rs)

-- and the same forks
pub forks_left : (seats : List (Option Seat)) (p : Task × Task → Bool) (q : ForkRecord → Bool) → ((r : ForkRecord) → p (conflict_of seats r) ≡ q r) → (rs : List ForkRecord)
    → forks_kept (λ c. not (p c)) (map (conflict_of seats) rs) (forks_of rs) ≡ forks_of (filter (λ r. not (q r)) rs)
forks_left seats p q same [] = refl
forks_left seats p q same (r ∷ rs) = grind (arith, same r, forks_left seats p q same rs)

-- ---- the records of a task

module _ (clock : ℕ) (seats : List (Option Seat)) (u : Task) (x : Seat) (h : ArePlaced clock 0 seats) (at : get_or seats u.slot None ≡ Some x) (same : same_task x.diner.task u ≡ true) where
  -- the task in its seat is at its slot alone
  pub same_task-task_at : (s : ℕ) → same_task u (task_at seats s) ≡ eqb u.slot s
  same_task-task_at s = grind (arith, eqb-true u.slot s, eqb-false u.slot s, same_task-refl u, same_task-true x.diner.task u same, same_task-true u (task_at seats s), slot-task_at clock seats s h)

  -- a conflict has u as an end where its record has the slot
  pub has_end-conflict_of : (r : ForkRecord) → has_end u (conflict_of seats r) ≡ is_end u.slot r
  has_end-conflict_of r = rw (same_task-task_at r.first, same_task-task_at r.second) refl

  -- a walk of the slot settles the records of u, where their edges were lawful by the state that it had
  pub settles_around : (r : Reach) (was own : State) → Comes r was own → seat_state seats u.slot ≡ own → (rs : List ForkRecord) → EndsPresent (by_stamp clock seats) (map (conflict_of seats) rs)
      → list_all (is_lawful_beside was seats u.slot) (slot_list u.slot rs) ≡ true
      → SettlesAround u (by_stamp clock seats) (map (conflict_of seats) rs) (forks_of rs) (forks_of (map (walked_at r (settles own (seat_state seats)) u.slot) rs))
      (sum_by (walk_costs r (settling_cost own (seat_state seats)) u.slot) (slot_list u.slot rs))
  settles_around r was own comes here [] p l = refl
  settles_around r was own comes here (x ∷ xs) p l =
      (cond (is_end u.slot x) (cost x) 0, sum_by cost (slot_list u.slot xs), sum-one cost u.slot x xs (is_end u.slot x) refl, one.0, settles_around r was own comes here xs p.1 one.1)
    where
      cost : ForkRecord → ℕ
      cost = walk_costs r (settling_cost own (seat_state seats)) u.slot

      one : SettlesEnd u (by_stamp clock seats) (conflict_of seats x) x.fork (walked_at r (settles own (seat_state seats)) u.slot x).fork (cond (is_end u.slot x) (cost x) 0)
          × (list_all (is_lawful_beside was seats u.slot) (slot_list u.slot xs) ≡ true)
      one = elim (cases_Bool (is_end u.slot x)) [
        | inl e ↦
            let lawful = and_parts (is_lawful_beside was seats u.slot x) (list_all (is_lawful_beside was seats u.slot) (slot_list u.slot xs)) (rw e at l) in
            (rw (has_end-conflict_of x) (rw (e, state_in-task_at clock seats x.first h p.0.0, state_in-task_at clock seats x.second h p.0.1) (walk_settles r was own comes seats u.slot here x e lawful.0)), lawful.1)
        | inr e ↦ (rw (has_end-conflict_of x) (rw e (refl, refl)), rw e at l)
      ]

  -- the forks of u get dirty where those of its slot do
  pub dirtied_around-records : (rs : List ForkRecord) → dirtied_around u (map (conflict_of seats) rs) (forks_of rs) ≡ forks_of (map (dirtied_at u.slot) rs)
  dirtied_around-records [] = refl
  dirtied_around-records (r ∷ rs) = rw (same_task-task_at r.first, same_task-task_at r.second, dirtied_around-records rs) (elim (cases_Bool (is_end u.slot r)) [ inl e ↦ rw e refl | inr e ↦ rw e refl ])

  -- the other ends of the records of u are its neighbours
  pub neighbours_in-records : (rs : List ForkRecord) → neighbours_in (map (conflict_of seats) rs) u ≡ map (neighbour_at seats u.slot) (slot_list u.slot rs)
  neighbours_in-records [] = refl
  neighbours_in-records (r ∷ rs) = grind (arith, same_task-task_at r.first, same_task-task_at r.second, neighbours_in-records rs)

  -- the forks once u has withdrawn are those of the records once its slot has
  pub withdrawn_around-records : (rs : List ForkRecord) → withdrawn_around u (map (conflict_of seats) rs) (forks_of rs) ≡ forks_of (map (withdrawn_at u.slot) rs)
  withdrawn_around-records [] = refl
  withdrawn_around-records (r ∷ rs) = rw (same_task-task_at r.first, same_task-task_at r.second, withdrawn_around-records rs) (elim (cases_Bool (is_end u.slot r)) [ inl e ↦ rw e refl | inr e ↦ rw e refl ])

  -- and so are the messages
  pub withdrawal_messages-records : (rs : List ForkRecord) → withdrawal_messages_around u (map (conflict_of seats) rs) (forks_of rs) ≡ sum_by (withdrawal_messages_of u.slot) (slot_list u.slot rs)
  withdrawal_messages-records [] = refl
  withdrawal_messages-records (r ∷ rs) = grind (arith, same_task-task_at r.first, same_task-task_at r.second, withdrawal_messages-records rs, sum_by-cons (withdrawal_messages_of u.slot) r (slot_list u.slot rs))

-- a conflict is one of two tasks where its record is one of their slots
pub is_between-conflict_of : (clock : ℕ) (seats : List (Option Seat)) (u v : Task) (x y : Seat) → ArePlaced clock 0 seats → get_or seats u.slot None ≡ Some x → same_task x.diner.task u ≡ true → get_or seats v.slot None ≡ Some y → same_task y.diner.task v ≡ true
    → (r : ForkRecord) → is_between u v (conflict_of seats r) ≡ is_between_slots u.slot v.slot r
is_between-conflict_of clock seats u v x y h at_u is_u at_v is_v r =
    let one = same_task-task_at clock seats u x h at_u is_u in
    let other = same_task-task_at clock seats v y h at_v is_v in
    rw (one r.first, other r.second, one r.second, other r.first) refl

-- ---- changed forks leave the conflicts

-- the conflicts stay that changed records stand for
pub conflicts-changed : (seats : List (Option Seat)) (test : ForkRecord → Bool) (change : ForkRecord → Fork) (rs : List ForkRecord) → map (conflict_of seats) (map (changed_where test change) rs) ≡ map (conflict_of seats) rs
conflicts-changed seats test change [] = refl
conflicts-changed seats test change (r ∷ rs) = rw (conflicts-changed seats test change rs) (elim (cases_Bool (test r)) [ inl e ↦ rw e refl | inr e ↦ rw e refl ])

-- ---- a seat that gets a new content

-- a task stays in its seat when its state changes
pub task_in-put_in_seat : (st : State) (u : Task) (s : ℕ) (o : Option Seat) → task_in_seat s (put_in_seat st u o) ≡ task_in_seat s o
task_in-put_in_seat st u s None = refl
task_in-put_in_seat st u s (Some seat) = diner_put_in-task st u seat.diner

-- and the seat stays placed
pub placed-put_in_seat : (clock slot : ℕ) (st : State) (u : Task) (o : Option Seat) → IsPlaced clock slot o → IsPlaced clock slot (put_in_seat st u o)
placed-put_in_seat clock slot st u None p = p
placed-put_in_seat clock slot st u (Some seat) p = (ap (λ (w : Task). w.slot) (diner_put_in-task st u seat.diner) ∙ p.0, p.1)

-- each slot keeps its task where a seat's new content has the old task
pub task_at-set : (seats : List (Option Seat)) (i : ℕ) (o : Option Seat) (s : ℕ) → i < length seats → task_in_seat i o ≡ task_in_seat i (get_or seats i None) → task_at (set seats i o) s ≡ task_at seats s
task_at-set seats i o s lt same = grind (arith, get_or-set_same seats i o None lt, get_or-set_other seats i s o None)

-- so all conflicts stay
pub conflicts-set : (seats : List (Option Seat)) (i : ℕ) (o : Option Seat) (rs : List ForkRecord) → i < length seats → task_in_seat i o ≡ task_in_seat i (get_or seats i None) → map (conflict_of (set seats i o)) rs ≡ map (conflict_of seats) rs
conflicts-set seats i o [] lt same = refl
conflicts-set seats i o (r ∷ rs) lt same = rw (task_at-set seats i o r.first lt same, task_at-set seats i o r.second lt same, conflicts-set seats i o rs lt same) refl

-- all conflicts stay where no record has the slot
pub conflicts-set_apart : (seats : List (Option Seat)) (i : ℕ) (o : Option Seat) (rs : List ForkRecord) → AllByRecursion (λ r. is_end i r ≡ false) rs → map (conflict_of (set seats i o)) rs ≡ map (conflict_of seats) rs
conflicts-set_apart seats i o [] apart = refl
conflicts-set_apart seats i o (r ∷ rs) apart =
    let neither = or_parts (eqb i r.first) (eqb i r.second) apart.0 in
    rw (other r.first neither.0, other r.second neither.1, conflicts-set_apart seats i o rs apart.1) refl
  where
    other : (s : ℕ) → eqb i s ≡ false → task_at (set seats i o) s ≡ task_at seats s
    other s e = ap (task_in_seat s) (get_or-set_other seats i s o None (λ f. eqb-false i s e (sym f)))

-- seats are placed once one of them gets a content that is
pub are_placed-set : (clock slot : ℕ) (xs : List (Option Seat)) (i : ℕ) (o : Option Seat) → ArePlaced clock slot xs → IsPlaced clock (slot + i) o → ArePlaced clock slot (set xs i o)
are_placed-set clock slot [] i o h p = tt
are_placed-set clock slot (x ∷ xs) zero o h p = (subst (λ k. IsPlaced clock k o) (add-zero slot) p, h.1)
are_placed-set clock slot (x ∷ xs) (suc i) o h p = (h.0, are_placed-set clock (slot + 1) xs i o h.1 (let same : slot + suc i ≡ slot + 1 + i = omega arith in subst (λ k. IsPlaced clock k o) same p))

-- and stay so as the clock goes on
pub placed_later : (clock slot : ℕ) (xs : List (Option Seat)) → ArePlaced clock slot xs → ArePlaced (clock + 1) slot xs
placed_later clock slot [] h = tt
placed_later clock slot (None ∷ xs) h = (tt, placed_later clock (slot + 1) xs h.1)
placed_later clock slot (Some seat ∷ xs) h = ((h.0.0, let below : seat.stamp < clock = h.0.1 in omega arith), placed_later clock (slot + 1) xs h.1)

-- ---- a task that is present has its seat

-- a task with a state is the task of its seat
pub seated : (seats : List (Option Seat)) (u : Task) (s : State) → state_at seats u ≡ Some s → (x : Seat) × (get_or seats u.slot None ≡ Some x) × (same_task x.diner.task u ≡ true)
seated seats u s h = go (get_or seats u.slot None) h
  where
    go : (o : Option Seat) → state_in_seat u o ≡ Some s → (x : Seat) × (o ≡ Some x) × (same_task x.diner.task u ≡ true)
    go None k = absurd (let w : None ≡ Some s = k in cc)
    go (Some x) k = elim (cases_Bool (same_task x.diner.task u)) [
      | inl e ↦ (x, refl, e)
      | inr e ↦ absurd (let w : None ≡ Some s = rw e at k in cc)
    ]

-- a seat that is taken is one of the seats
pub in_range : (seats : List (Option Seat)) (i : ℕ) (x : Seat) → get_or seats i None ≡ Some x → i < length seats
in_range seats i x h = grind (arith, get_or_past seats i None)
