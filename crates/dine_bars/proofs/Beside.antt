-- The neighbours of a task by the records of its slot.
use Rattle.std.proofs.Common.{◌≡◌, ℕ, ◌+◌, true, false, ◌&&◌, List, [], ◌∷◌, ◌++◌, length, map, Option, Some, None, is_some, inl, inr, refl, sym, ap, ◌∙◌, arith, length-append}
use Rattle.std.specs.Prelude.{◌==◌, option_map, unwrap_or}
use Rattle.std.specs.List.{AllByRecursion}
use Rattle.std.proofs.lemmas.Bool.{cases_Bool, eqb-true}
use Rattle.std.proofs.lemmas.List.{length-map}
use Rattle.dine_words.specs.declared.task.Diner.{Diner}
use Rattle.dine_words.specs.declared.task.State.{State}
use Rattle.dine_words.specs.declared.task.Task.{Task}
use Rattle.dine_table.specs.Table.{Table, same_task, state_in, state_of, neighbours_in, neighbours_of}
use Rattle.dine_table.specs.Sound.{EndsPresent, EndsDiffer, IsSound}
use Rattle.dine_table.proofs.CallerLemmas.{same_task-refl, same_task-true}
use Rattle.dine_forks.specs.declared.record.ForkRecord.{ForkRecord}
use Rattle.dine_forks.specs.Book as book
use Rattle.dine_arbiter.specs.Arbitration.{slots_of}
use Rattle.dine_bars.specs.Begun.{AreSeated, seated_at}
use Rattle.dine_bars.specs.Marks.{beside}

-- ---- who sits at a slot

-- whoever stands in an order stands in a longer one
some_behind : (d : Diner) (ds : List Diner) (v : Task) → is_some (state_in ds v) ≡ true → is_some (state_in (d ∷ ds) v) ≡ true
some_behind d ds v here = elim (cases_Bool (same_task d.task v)) [
  | inl same ↦ rw same refl
  | inr apart ↦ rw apart here
]

-- the task at the slot of one that is present is present, and has the slot
at_slot : (order : List Diner) (w : Task) → is_some (state_in order w) ≡ true → (is_some (state_in order (seated_at order w.slot)) ≡ true) × ((seated_at order w.slot).slot ≡ w.slot)
at_slot [] w here = absurd (let k : false ≡ true = here in cc)
at_slot (d ∷ ds) w here = elim (cases_Bool (d.task.slot == w.slot)) [
  | inl same ↦ rw same (rw (same_task-refl d.task) refl, eqb-true d.task.slot w.slot same)
  | inr apart ↦
      let not_w : same_task d.task w ≡ false = ap (λ b. b && (d.task.born == w.born)) apart in
      let rest = at_slot ds w (rw not_w at here) in
      rw apart (some_behind d ds (seated_at ds w.slot) rest.0, rest.1)
]

-- whoever sits at a slot has it
pub seated-slot : (order : List Diner) (slot : ℕ) → (seated_at order slot).slot ≡ slot
seated-slot [] slot = refl
seated-slot (d ∷ ds) slot = elim (cases_Bool (d.task.slot == slot)) [
  | inl same ↦ rw same (eqb-true d.task.slot slot same)
  | inr apart ↦ rw apart (seated-slot ds slot)
]

-- the task at the other end of a record of u's slot
abbrev pub beside_at : Table → Task → ForkRecord → Task
beside_at t u r = seated_at t.order (book.other_end u.slot r)

module _ (t : Table) (slots : ℕ) (seated : AreSeated t slots) where
  -- at the slot of a task that is present sits the task
  pub seated-is : (w : Task) → is_some (state_of t w) ≡ true → seated_at t.order w.slot ≡ w
  seated-is w here = let there = at_slot t.order w here in seated.one (seated_at t.order w.slot) w there.0 here there.1

  -- two tasks that are present are one where their slots are
  same_slot : (u v : Task) → is_some (state_of t u) ≡ true → is_some (state_of t v) ≡ true → same_task u v ≡ (u.slot == v.slot)
  same_slot u v hu hv = elim (cases_Bool (u.slot == v.slot)) [
    | inl same ↦ ap (same_task u) (sym (seated.one u v hu hv (eqb-true u.slot v.slot same))) ∙ same_task-refl u ∙ sym same
    | inr apart ↦ ap (λ b. b && (u.born == v.born)) apart ∙ sym apart
  ]

  module _ (u : Task) (here : is_some (state_of t u) ≡ true) where
    -- the other end of a record whose first end is the slot
    other_of_first : (r : ForkRecord) → (u.slot == r.first) ≡ true → book.other_end u.slot r ≡ r.second
    other_of_first r end = rw end refl

    -- and of one whose first end is not
    other_of_second : (r : ForkRecord) → (u.slot == r.first) ≡ false → book.other_end u.slot r ≡ r.first
    other_of_second r other = rw other refl

    -- an end of a record is u's slot exactly where the task of that slot is u
    end-is : (slot : ℕ) (v : Task) → slot ≡ v.slot → is_some (state_of t v) ≡ true → (u.slot == slot) ≡ same_task u v
    end-is slot v same there = ap (λ s. u.slot == s) same ∙ sym (same_slot u v here there)

    -- the record of one more conflict is among those of u's slot exactly where the conflict is one of u, and has the neighbour
    -- at its other end
    one_more : (c : Task × Task) (cs : List (Task × Task)) (r : ForkRecord) (rs : List ForkRecord) → is_some (state_of t c.0) ≡ true → is_some (state_of t c.1) ≡ true → r.first ≡ c.0.slot → r.second ≡ c.1.slot
        → neighbours_in cs u ≡ map (beside_at t u) (book.slot_list u.slot rs) → neighbours_in (c ∷ cs) u ≡ map (beside_at t u) (book.slot_list u.slot (r ∷ rs))
    one_more c cs r rs here_first here_second first second rest =
        let at_first = end-is r.first c.0 first here_first in
        let at_second = end-is r.second c.1 second here_second in
        elim (cases_Bool (same_task u c.0)) [
          | inl is_first ↦
              let end : (u.slot == r.first) ≡ true = at_first ∙ is_first in
              let is : c.1 ≡ beside_at t u r = sym (seated-is c.1 here_second) ∙ ap (seated_at t.order) (sym second ∙ sym (other_of_first r end)) in
              rw (is_first, end) (ap (λ v. v ∷ neighbours_in cs u) is ∙ ap (λ vs. beside_at t u r ∷ vs) rest)
          | inr not_first ↦
              let other : (u.slot == r.first) ≡ false = at_first ∙ not_first in
              elim (cases_Bool (same_task u c.1)) [
                | inl is_second ↦
                    let end : (u.slot == r.second) ≡ true = at_second ∙ is_second in
                    let is : c.0 ≡ beside_at t u r = sym (seated-is c.0 here_first) ∙ ap (seated_at t.order) (sym first ∙ sym (other_of_second r other)) in
                    rw (not_first, is_second, other, end) (ap (λ v. v ∷ neighbours_in cs u) is ∙ ap (λ vs. beside_at t u r ∷ vs) rest)
                | inr not_second ↦
                    let neither : (u.slot == r.second) ≡ false = at_second ∙ not_second in
                    rw (not_first, not_second, other, neither) rest
              ]
        ]

    -- the records of u's slot have u's neighbours at their other ends, in the same order
    neighbours-are : (cs : List (Task × Task)) (rs : List ForkRecord) → map book.ends_of rs ≡ map slots_of cs → EndsPresent t.order cs → neighbours_in cs u ≡ map (beside_at t u) (book.slot_list u.slot rs)
    neighbours-are [] [] e present = refl
    neighbours-are [] (r ∷ rs) e present = absurd cc
    neighbours-are (c ∷ cs) [] e present = absurd cc
    neighbours-are (c ∷ cs) (r ∷ rs) e present =
        let ends : book.ends_of r ≡ slots_of c = cc in
        one_more c cs r rs present.0.0 present.0.1 (ap (λ (p : ℕ × ℕ). p.0) ends) (ap (λ (p : ℕ × ℕ). p.1) ends) (neighbours-are cs rs (cc) present.1)

-- ---- neighbours

-- another task, and present
abbrev pub IsBeside : Table → Task → Task → Type 0
IsBeside t u v = (is_some (state_of t v) ≡ true) × (same_task u v ≡ false)

-- the neighbours of a task are other tasks, and present
pub neighbours_beside : (t : Table) (u : Task) (cs : List (Task × Task)) → EndsPresent t.order cs → EndsDiffer cs → AllByRecursion (IsBeside t u) (neighbours_in cs u)
neighbours_beside t u [] present differ = tt
neighbours_beside t u (c ∷ cs) present differ =
    let rest = neighbours_beside t u cs present.1 differ.1 in
    elim (cases_Bool (same_task u c.0)) [
      | inl is_first ↦ rw is_first ((present.0.1, ap (λ x. same_task x c.1) (same_task-true u c.0 is_first) ∙ differ.0), rest)
      | inr not_first ↦ elim (cases_Bool (same_task u c.1)) [
        | inl is_second ↦ rw (not_first, is_second) ((present.0.0, not_first), rest)
        | inr not_second ↦ rw (not_first, not_second) rest
      ]
    ]

-- the neighbours of a task that is present, and the task
pub beside-is : (t : Table) (u : Task) → is_some (state_of t u) ≡ true → beside t u ≡ neighbours_of t u ++ u ∷ []
beside-is t u here = go (state_of t u) here
  where
    go : (o : Option State) → is_some o ≡ true → unwrap_or (option_map (λ s. neighbours_of t u) o) [] ++ u ∷ [] ≡ neighbours_of t u ++ u ∷ []
    go None h = absurd (let k : false ≡ true = h in cc)
    go (Some s) h = refl

-- ---- the records of the slot of a task that is present

module _ (t : Table) (seated : AreSeated t t.limits.tasks) (sound : IsSound t) (u : Task) (here : is_some (state_of t u) ≡ true) (rs : List ForkRecord) (ends : map book.ends_of rs ≡ map slots_of t.conflicts) where
  -- they have its neighbours at their other ends
  pub neighbours-by_slot : neighbours_of t u ≡ map (beside_at t u) (book.slot_list u.slot rs)
  neighbours-by_slot = neighbours-are t t.limits.tasks seated u here t.conflicts rs ends sound.ends_present

  -- they are one fewer than its neighbours and the task
  pub beside-count : length (beside t u) ≡ length (book.slot_list u.slot rs) + 1
  beside-count =
      let all = ap length (beside-is t u here) in
      let one_more = length-append (neighbours_of t u) (u ∷ []) in
      let near = ap length neighbours-by_slot in
      let as_many = length-map (book.slot_list u.slot rs) (beside_at t u) in
      omega arith
