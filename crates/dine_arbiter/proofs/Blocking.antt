-- The neighbours that keep a hungry task waiting are those that have a fork which it lacks.
use Rattle.dine_arbiter.proofs.Words.{◌≡◌, Bool, true, false, not, List, [], ◌∷◌, eqb, map, Some, IsTrue, inl, inr, refl, sym, ap, ◌∙◌, subst, arith, AllZip, filter, cases_Bool, Table, keeps_waiting, neighbours_of, same_task, state_in, state_of, blockers_of, EndsDiffer, same_task-true, holds, is_end, slot_list, agrees, Task, Diner, Hungry, task_at, ForkRecord, conflict_of, neighbour_at, Arbiter, forks_of}
use Rattle.dine_arbiter.specs.declared.arbiter.Arbiter.TheInside.{Inside}
use Rattle.dine_arbiter.proofs.After.{seen_neighbours, table_is}
use Rattle.dine_arbiter.proofs.EdgeLaws.{holds_first, holds_second}
use Rattle.dine_arbiter.proofs.Kept.{IsKeptIn, has_seat, seen, table_in}
use Rattle.dine_arbiter.proofs.Seating.{same_task-task_at}

-- a value of which the negation is one is the negation of that
other_way : (a b : Bool) → a ≡ not b → b ≡ not a
other_way a b h = grind arith

module _ (a : Inside) {v : Arbiter} (is : seen a ≡ v) (kept : IsKeptIn a) (u : Task) (hungry : state_of v.table u ≡ Some Hungry) where
  -- the order of last meals
  abbrev order : List Diner
  order = (table_in a).order

  -- the task is hungry there
  hungry_in : state_in order u ≡ Some Hungry
  hungry_in = ap (λ t. state_of t u) (table_is a is kept) ∙ hungry

  -- it is the task at its slot alone
  at_slot : (s : _) → same_task u (task_at a.seats s) ≡ eqb u.slot s
  at_slot = let (x, at, same) = has_seat a kept u Hungry hungry_in in same_task-task_at a.clock a.seats u x kept.placed at same

  -- the other end of a record keeps it waiting exactly where its slot lacks the fork
  blocks : (r : ForkRecord) → same_task (task_at a.seats r.first) (task_at a.seats r.second) ≡ false → agrees order (conflict_of a.seats r) r.fork ≡ true → is_end u.slot r ≡ true
      → keeps_waiting order u (neighbour_at a.seats u.slot r) ≡ not (holds u.slot r)
  blocks r differ agree end = elim (cases_Bool (eqb u.slot r.first)) [
    | inl first ↦
        let is_u = same_task-true u (task_at a.seats r.first) (at_slot r.first ∙ first) in
        let other = task_at a.seats r.second in
        rw first (other_way r.fork.at_first (keeps_waiting order u other)
        (holds_first order u hungry_in other r.fork (ap (λ w. same_task w other) is_u ∙ differ) (subst (λ w. agrees order (w, other) r.fork ≡ true) (sym is_u) agree)))
    | inr later ↦
        let second : eqb u.slot r.second ≡ true = rw later at end in
        let is_u = same_task-true u (task_at a.seats r.second) (at_slot r.second ∙ second) in
        let other = task_at a.seats r.first in
        rw later (other_way (not r.fork.at_first) (keeps_waiting order u other)
        (holds_second order u hungry_in other r.fork (ap (same_task other) is_u ∙ differ) (subst (λ w. agrees order (other, w) r.fork ≡ true) (sym is_u) agree)))
  ]

  -- so it is with all records of the slot
  all_block : (rs : List ForkRecord) → EndsDiffer (map (conflict_of a.seats) rs) → AllZip (λ c fork. IsTrue (agrees order c fork)) (map (conflict_of a.seats) rs) (forks_of rs)
      → map (neighbour_at a.seats u.slot) (filter (λ r. not (holds u.slot r)) (slot_list u.slot rs)) ≡ filter (keeps_waiting order u) (map (neighbour_at a.seats u.slot) (slot_list u.slot rs))
  all_block [] differ agree = refl
  all_block (r ∷ rs) differ agree = elim (cases_Bool (is_end u.slot r)) [
    | inl end ↦ rw (end, blocks r differ.0 agree.0 end) (elim (cases_Bool (not (holds u.slot r))) [
      | inl lacks ↦ rw lacks (ap (λ us. neighbour_at a.seats u.slot r ∷ us) (all_block rs differ.1 agree.1))
      | inr has ↦ rw has (all_block rs differ.1 agree.1)
    ])
    | inr apart ↦ rw apart (all_block rs differ.1 agree.1)
  ]

  -- those at the other ends of its forks that it lacks are those who block it
  pub seen_blockers : map (neighbour_at a.seats u.slot) (filter (λ r. not (holds u.slot r)) (slot_list u.slot a.book.records)) ≡ blockers_of v.table u
  seen_blockers =
      all_block a.book.records kept.sound.ends_differ kept.agree
      ∙ ap (filter (keeps_waiting order u)) (seen_neighbours a is kept u Hungry hungry)
      ∙ ap (λ (t : Table). filter (keeps_waiting t.order u) (neighbours_of v.table u)) (table_is a is kept)
      ∙ rw hungry refl
