-- Whether somebody is hungry beside a task: nobody where nobody is hungry at all, and else the walk over the records of its slot
-- finds who is.
use Rattle.dine_arbiter.proofs.Words.{◌≡◌, ℕ, ◌≤◌, ◌/◌, false, List, [], ◌∷◌, length, Option, inl, inr, refl, arith, map, get_or, Some, None, sym, ap, ◌∙◌, list_any, bit_at, get_or-map, cases_lt, get_or_past, length-map, bit_at-zero, AreWords, other_end, slot_list, ForkRecord, neighbour_at, Seat, state_of_seat, seat_state, Task, State, Thinking, Hungry, Diner, by_stamp, ArePlaced, task_at, state_in_seat, task_in_seat, hungry_slots, is_hungry, is_hungry_beside, has_hungry_neighbour, Table, is_found, is_in, state_in, state_of, neighbours_in, neighbours_of, EndsPresent, same_task-refl, same_task-true, Arbiter}
use Rattle.dine_arbiter.proofs.Seating.{state_at_slot}
use Rattle.dine_arbiter.proofs.Kept.{IsKeptIn, seen, table_in}
use Rattle.dine_arbiter.specs.declared.arbiter.Arbiter.TheInside.{Inside}
use Rattle.dine_arbiter.proofs.After.{seen_neighbours, table_is}

-- ---- nobody is hungry

-- no walk of a slot finds a hungry task where no word of the set has one
pub calm_beside : (seats : List (Option Seat)) (marks : ℕ) (slot : ℕ) (rs : List ForkRecord) → length seats ≤ 4096 → AreWords (hungry_slots seats) marks → marks ≡ 0 → list_any (is_hungry_beside seats slot) rs ≡ false
calm_beside seats marks slot [] few words nobody = refl
calm_beside seats marks slot (r ∷ rs) few words nobody = rw (calm (other_end slot r)) (calm_beside seats marks slot rs few words nobody)
  where
    calm : (k : ℕ) → is_hungry (seat_state seats k) ≡ false
    calm k =
        sym (ap is_hungry (get_or-map state_of_seat seats k None)) ∙ sym (get_or-map is_hungry (map state_of_seat seats) k Thinking)
        ∙ elim (cases_lt k (length seats)) [
          | inl below ↦ words.none (k / 64) (omega arith) (ap (λ n. bit_at n (k / 64)) nobody ∙ bit_at-zero (k / 64)) k (omega arith) (omega arith)
          | inr behind ↦ get_or_past (hungry_slots seats) k false (rw (length-map (map state_of_seat seats) is_hungry, length-map seats state_of_seat) behind)
        ]

-- ---- the walk finds a hungry task where a neighbour is hungry

-- the task at a slot is hungry where its seat says so
hungry-task_at : (clock : ℕ) (seats : List (Option Seat)) (s : ℕ) → ArePlaced clock 0 seats → is_in Hungry (by_stamp clock seats) (task_at seats s) ≡ is_hungry (seat_state seats s)
hungry-task_at clock seats s h =
    ap (is_found Hungry) (state_at_slot clock seats s h) ∙ go (get_or seats s None)
  where
    go : (o : Option Seat) → is_found Hungry (state_in_seat (task_in_seat s o) o) ≡ is_hungry (state_of_seat o)
    go None = refl
    go (Some seat) = rw (same_task-refl seat.diner.task) refl

-- a hungry task beside a slot is a hungry neighbour
hungry-neighbours : (clock : ℕ) (seats : List (Option Seat)) (slot : ℕ) → ArePlaced clock 0 seats → (rs : List ForkRecord) → list_any (is_hungry_beside seats slot) rs ≡ list_any (is_in Hungry (by_stamp clock seats)) (map (neighbour_at seats slot) rs)
hungry-neighbours clock seats slot h [] = refl
hungry-neighbours clock seats slot h (r ∷ rs) =
    rw (hungry-task_at clock seats (other_end slot r) h, ← hungry-neighbours clock seats slot h rs) refl

-- whoever is absent has no neighbours
no_neighbours : (order : List Diner) (u : Task) (cs : List (Task × Task)) → state_in order u ≡ None → EndsPresent order cs → neighbours_in cs u ≡ []
no_neighbours order u [] h present = refl
no_neighbours order u (c ∷ cs) h present = grind (arith, same_task-true u c.0, same_task-true u c.1, no_neighbours order u cs h present.1)

module _ (a : Inside) {v : Arbiter} (is : seen a ≡ v) (kept : IsKeptIn a) where
  -- a walk finds a hungry task where a neighbour is hungry
  pub seen_hungry : (u : Task) (x : State) → state_of v.table u ≡ Some x → list_any (is_hungry_beside a.seats u.slot) (slot_list u.slot a.book.records) ≡ has_hungry_neighbour v.table u
  seen_hungry u x h =
      hungry-neighbours a.clock a.seats u.slot kept.placed (slot_list u.slot a.book.records)
      ∙ ap (list_any (is_in Hungry (by_stamp a.clock a.seats))) (seen_neighbours a is kept u x h)
      ∙ ap (λ (t : Table). list_any (is_in Hungry t.order) (neighbours_of v.table u)) (table_is a is kept)

  -- whoever is absent has no hungry neighbour
  pub absent_alone : (u : Task) → state_of v.table u ≡ None → has_hungry_neighbour v.table u ≡ false
  absent_alone u h =
      let same = table_is a is kept in
      let alone = no_neighbours (by_stamp a.clock a.seats) u (table_in a).conflicts (ap (λ (t : Table). state_of t u) same ∙ h) kept.sound.ends_present in
      ap (list_any (is_in Hungry v.table.order)) (ap (λ (t : Table). neighbours_of t u) (sym same) ∙ alone)
