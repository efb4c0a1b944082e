-- The edges around a slot are lawful between calls: so they still are, by the state that its task had, once the task has
-- another.
use Rattle.dine_arbiter.proofs.Words.{◌≡◌, ◌≢◌, ℕ, true, List, [], ◌∷◌, get_or, set, map, Option, Some, None, is_some, IsTrue, inl, inr, refl, sym, ap, ◌∙◌, get_or-set_other, get_or-set_same, arith, AllByRecursion, AllZip, list_all, cases_Bool, and_parts, and_from, eqb-true, false≢true, same_task, state_in, EndsDiffer, diner_put_in-state, same_task-refl, is_end, slot_list, agrees, is_lawful, Task, State, Seat, by_stamp, ArePlaced, put_in_seat, state_at, task_at, state_of_seat, seat_state, ForkRecord, conflict_of, forks_of}
use Rattle.dine_arbiter.proofs.SlotEdges.{is_lawful_beside, second-end}
use Rattle.dine_arbiter.proofs.EdgeLaws.{ends_present}
use Rattle.dine_arbiter.proofs.Seating.{in_range, seated, state_in-task_at}

-- the ends of a record are two slots, as those of its conflict are two tasks
pub slots-differ : (seats : List (Option Seat)) (rs : List ForkRecord) → EndsDiffer (map (conflict_of seats) rs) → AllByRecursion (λ (r : ForkRecord). r.first ≢ r.second) rs
slots-differ seats [] h = tt
slots-differ seats (r ∷ rs) h =
    ((λ same. false≢true (sym h.0 ∙ ap (λ k. same_task (task_at seats r.first) (task_at seats k)) (sym same) ∙ same_task-refl (task_at seats r.first))), slots-differ seats rs h.1)

-- a task that is present in a state has it at its seat
pub state-seated : (seats : List (Option Seat)) (u : Task) (s : State) → state_at seats u ≡ Some s → seat_state seats u.slot ≡ s
state-seated seats u s h =
    let (x, at, same) = seated seats u s h in
    let is : Some x.diner.state ≡ Some s = rw (at, same) at h in
    rw at cc

-- and once it is put into another, that one
pub state-put : (seats : List (Option Seat)) (u : Task) (s t : State) → state_at seats u ≡ Some s → seat_state (set seats u.slot (put_in_seat t u (get_or seats u.slot None))) u.slot ≡ t
state-put seats u s t h =
    let (x, at, same) = seated seats u s h in
    ap state_of_seat (get_or-set_same seats u.slot (put_in_seat t u (get_or seats u.slot None)) None (in_range seats u.slot x at))
    ∙ ap (λ o. state_of_seat (put_in_seat t u o)) at ∙ diner_put_in-state t u x.diner ∙ rw same refl

module _ (clock : ℕ) (seats : List (Option Seat)) (slot : ℕ) (o : Option Seat) (own : State) (placed : ArePlaced clock 0 seats) (was : seat_state seats slot ≡ own) where
  -- an edge that agrees is lawful for the states of its ends
  lawful_between : (r : ForkRecord) → agrees (by_stamp clock seats) (conflict_of seats r) r.fork ≡ true → is_lawful r.fork (seat_state seats r.first) (seat_state seats r.second) ≡ true
  lawful_between r h =
      let order = by_stamp clock seats in
      let c = conflict_of seats r in
      let (x, y, ha, hb) = ends_present order c.0 c.1 r.fork h in
      let first : state_in order c.0 ≡ Some (seat_state seats r.first) = state_in-task_at clock seats r.first placed (ap is_some ha) in
      let second : state_in order c.1 ≡ Some (seat_state seats r.second) = state_in-task_at clock seats r.second placed (ap is_some hb) in
      (and_parts (is_lawful r.fork (seat_state seats r.first) (seat_state seats r.second)) _ (rw (first, second) at h)).0

  -- at each other slot the state stays
  elsewhere : (k : ℕ) → k ≢ slot → seat_state (set seats slot o) k ≡ seat_state seats k
  elsewhere k differ = ap state_of_seat (get_or-set_other seats slot k o None differ)

  -- so an edge of the slot is lawful by the state that the slot had, whichever end it is
  lawful_at : (r : ForkRecord) → is_end slot r ≡ true → r.first ≢ r.second → is_lawful r.fork (seat_state seats r.first) (seat_state seats r.second) ≡ true → is_lawful_beside own (set seats slot o) slot r ≡ true
  lawful_at r end differ h = grind (arith, eqb-true slot r.first, second-end slot r end, elsewhere r.first, elsewhere r.second)

  -- the edges of the slot are lawful where its task is taken to be in the state that it had
  pub lawful-around : (rs : List ForkRecord) → AllByRecursion (λ (r : ForkRecord). r.first ≢ r.second) rs → AllZip (λ c f. IsTrue (agrees (by_stamp clock seats) c f)) (map (conflict_of seats) rs) (forks_of rs)
      → list_all (is_lawful_beside own (set seats slot o) slot) (slot_list slot rs) ≡ true
  lawful-around [] differ h = refl
  lawful-around (r ∷ rs) differ h =
      let rest = lawful-around rs differ.1 h.1 in
      elim (cases_Bool (is_end slot r)) [
        | inl e ↦ rw e (and_from (is_lawful_beside own (set seats slot o) slot r) (list_all (is_lawful_beside own (set seats slot o) slot) (slot_list slot rs)) (lawful_at r e differ.0 (lawful_between r h.0)) rest)
        | inr e ↦ rw e rest
      ]
