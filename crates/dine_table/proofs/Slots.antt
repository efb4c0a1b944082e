-- Slots: no two tasks sit in one, and the newcomer's is the least free one.
use Rattle.std.proofs.Common.{◌≡◌, ◌⊎◌, ℕ, ◌+◌, ◌<◌, ◌≤◌, zero, suc, Bool, true, false, not, List, [], ◌∷◌, ◌++◌, length, Some, None, is_some, inl, inr, refl, sym, ap, ◌∙◌, arith}
use Rattle.std.specs.Prelude.{◌==◌}
use Rattle.std.specs.List.{All, AllByRecursion, AllPairs, Any, IsDistinct, filter, list_any}
use Rattle.std.proofs.lemmas.Bool.{cases_Bool, cases_eq, eqb-true, eqb-false, leb-false, eq-eqb, ne_eqb, not_from_true}
use Rattle.std.proofs.lemmas.Bool.Decides.{nat_tests}
use Rattle.std.proofs.lemmas.Map.Keys.{IsDistinct-head, IsDistinct-tail, IsDistinct-cons, apart_from_distinct}
use Rattle.std.proofs.lemmas.List.Elements.{All-from_recursion}
use Rattle.std.proofs.lemmas.List.Folds.{Any-from_list_any}
use Rattle.std.proofs.lemmas.Map.Views.{any-filter_same}
use Rattle.dine_words.specs.declared.task.Task.{Task}
use Rattle.dine_words.specs.declared.task.State.{State}
use Rattle.dine_words.specs.declared.task.Diner.{Diner}
use Rattle.dine_words.specs.declared.call.Call.TheVariants as call
use Rattle.dine_words.specs.declared.call.Refusal.TheVariants.{Full}
use Rattle.dine_table.specs.Table.{Table, same_task, state_in}
use Rattle.dine_table.specs.Calls.{is_full, refusal_of, newcomer, free_slot_from, diner_put_in, with_state, without}
use Rattle.dine_table.specs.Sound.{IsSound, same_slot}
use Rattle.dine_table.proofs.Tasks.{same_task-true}
use Rattle.dine_table.proofs.Order.{diner_put_in-task}
use Rattle.dine_table.proofs.Accepted.{passed}
use Rattle.dine_table.proofs.Lists.{AllByRecursion-none, IsDistinct-append, AllByRecursion-weaker, length-filter-lt, list_any-none, list_any-filter_none}

-- a task of the order sits in the slot
abbrev pub is_used : List Diner → ℕ → Bool
is_used order s = list_any (λ d. d.task.slot == s) order

-- ---- the least free slot

-- each slot before it is used
pub used_before : (n s : ℕ) (order : List Diner) (x : ℕ) → s ≤ x → x < free_slot_from n s order → is_used order x ≡ true
used_before zero s order x low high = absurd (omega arith)
used_before (suc n) s order x low high = elim (cases_Bool (is_used order s)) [
  | inl used ↦ elim (cases_eq s x) [
    | inl here ↦ ap (is_used order) (sym here) ∙ used
    | inr past ↦ used_before n (s + 1) order x (omega arith) (rw used at high)
  ]
  | inr free ↦ absurd (let less : x < s = rw free at high in omega arith)
]

-- the least free slot is no further off than the number of slots that are looked at
pub free_slot_from-le : (n s : ℕ) (order : List Diner) → free_slot_from n s order ≤ s + n
free_slot_from-le zero s order = omega arith
free_slot_from-le (suc n) s order = elim (cases_Bool (is_used order s)) [
  | inl used ↦ let rest = free_slot_from-le n (s + 1) order in rw used (omega (arith, rest))
  | inr free ↦ rw free (omega arith)
]

-- it is free, or all the slots that were looked at are used
free_or_past : (n s : ℕ) (order : List Diner) → (is_used order (free_slot_from n s order) ≡ false) ⊎ (free_slot_from n s order ≡ s + n)
free_or_past zero s order = inr (omega arith)
free_or_past (suc n) s order = elim (cases_Bool (is_used order s)) [
  | inl used ↦ rw used (elim (free_or_past n (s + 1) order) [
    | inl free ↦ inl free
    | inr past ↦ inr (omega (arith, past))
  ])
  | inr free ↦ rw free (inl free)
]

-- n slots that are used take n tasks
used_take : (n s : ℕ) (order : List Diner) → ((x : ℕ) → s ≤ x → x < s + n → is_used order x ≡ true) → n ≤ length order
used_take zero s order h = omega arith
used_take (suc n) s order h =
    let others : List Diner = filter (λ d. not (d.task.slot == s)) order in
    let fewer : length others + 1 ≤ length order = length-filter-lt (λ (d : Diner). d.task.slot == s) (λ d. not (d.task.slot == s)) (λ d e. not_from_true (d.task.slot == s) e) order (h s (omega arith) (omega arith)) in
    let apart : (x : ℕ) → s + 1 ≤ x → (d : Diner) → (d.task.slot == x) ≡ true → not (d.task.slot == s) ≡ true = λ x low d e. (let is : d.task.slot ≡ x = eqb-true d.task.slot x e in ap not (ne_eqb d.task.slot s (λ k. omega arith))) in
    let still : (x : ℕ) → s + 1 ≤ x → x < s + 1 + n → is_used others x ≡ true = λ x low high. (any-filter_same (λ (d : Diner). d.task.slot == x) (λ d. not (d.task.slot == s)) true (apart x low) order ∙ h x (omega arith) (omega arith)) in
    let rest = used_take n (s + 1) others still in
    omega (arith, fewer, rest)

-- the newcomer's slot is free
pub free_slot-unused : (order : List Diner) → is_used order (free_slot_from (length order) 0 order) ≡ false
free_slot-unused order = elim (free_or_past (length order) 0 order) [
  | inl free ↦ free
  | inr past ↦ elim (cases_Bool (is_used order (free_slot_from (length order) 0 order))) [
    | inr free ↦ free
    | inl used ↦ absurd (
        let all : (x : ℕ) → 0 ≤ x → x < 0 + (length order + 1) → is_used order x ≡ true = λ x low high. elim (cases_eq (free_slot_from (length order) 0 order) x) [
          | inl here ↦ ap (is_used order) (sym here) ∙ used
          | inr other ↦ used_before (length order) 0 order x low (omega (arith, past))
        ] in
        let many = used_take (length order + 1) 0 order all in
        omega (arith, many))
  ]
]

-- ---- no two tasks sit in one slot

-- whether two sit in one slot may be asked in either order
same_slot-sym : (d e : Diner) → same_slot d e ≡ same_slot e d
same_slot-sym d e = grind (arith, nat_tests)

-- whoever sits in a free slot shares it with nobody
unused_apart : (s : ℕ) (order : List Diner) (d : Diner) → d.task.slot ≡ s → is_used order s ≡ false → AllByRecursion (λ e. same_slot e d ≡ false) order
unused_apart s order d is h = AllByRecursion-none (λ (e : Diner). e.task.slot == d.task.slot) order (ap (is_used order) is ∙ h)

-- each slot is used once where one comes behind them who sits in a free one
pub each_slot_once-append : (order : List Diner) (d : Diner) → IsDistinct same_slot order → is_used order d.task.slot ≡ false → IsDistinct same_slot (order ++ d ∷ [])
each_slot_once-append order d h free = IsDistinct-append same_slot order d h (unused_apart d.task.slot order d refl free)

-- each slot is used once where a task gets a state
pub each_slot_once-with_state : (s : State) (u : Task) (order : List Diner) → IsDistinct same_slot order → IsDistinct same_slot (with_state s u order)
each_slot_once-with_state s u [] h = h
each_slot_once-with_state s u (d ∷ ds) h = IsDistinct-cons same_slot (diner_put_in s u d) (with_state s u ds) (apart ds (IsDistinct-head same_slot d ds h)) (each_slot_once-with_state s u ds (IsDistinct-tail same_slot d ds h))
  where
    apart : (es : List Diner) → AllByRecursion (λ e. same_slot d e ≡ false) es → AllByRecursion (λ e. same_slot (diner_put_in s u d) e ≡ false) (with_state s u es)
    apart [] k = tt
    apart (e ∷ es) k = (rw (diner_put_in-task s u d, diner_put_in-task s u e) k.0, apart es k.1)

-- whoever is present uses its slot
present_uses : (order : List Diner) (u : Task) (x : State) → state_in order u ≡ Some x → is_used order u.slot ≡ true
present_uses [] u x h = absurd (let k : None ≡ Some x = h in cc)
present_uses (d ∷ ds) u x h = elim (cases_Bool (same_task d.task u)) [
  | inl e ↦ rw (eq-eqb d.task.slot u.slot (ap (λ (w : Task). w.slot) (same_task-true d.task u e))) refl
  | inr e ↦ elim (cases_Bool (d.task.slot == u.slot)) [
    | inl k ↦ rw k refl
    | inr k ↦ rw k (present_uses ds u x (rw e at h))
  ]
]

-- its slot is free once it has left
pub slot_freed : (order : List Diner) (u : Task) (x : State) → state_in order u ≡ Some x → IsDistinct same_slot order → is_used (without u order) u.slot ≡ false
slot_freed [] u x h distinct = refl
slot_freed (d ∷ ds) u x h distinct =
    let others : is_used ds d.task.slot ≡ false = list_any-none (λ (w : Diner). w.task.slot == d.task.slot) ds (AllByRecursion-weaker (λ e. same_slot d e ≡ false) (λ e. same_slot e d ≡ false) (λ e k. same_slot-sym e d ∙ k) ds (IsDistinct-head same_slot d ds distinct)) in
    elim (cases_Bool (same_task d.task u)) [
      | inl e ↦ rw e (list_any-filter_none (λ (w : Diner). w.task.slot == u.slot) (λ w. not (same_task w.task u)) ds (ap (λ (w : Task). is_used ds w.slot) (sym (same_task-true d.task u e)) ∙ others))
      | inr e ↦
          let present : state_in ds u ≡ Some x = rw e at h in
          let apart : (d.task.slot == u.slot) ≡ false = ne_eqb d.task.slot u.slot (λ k. absurd (let w : true ≡ false = sym (present_uses ds u x present) ∙ ap (is_used ds) (sym k) ∙ others in cc)) in
          rw (e, apart) (slot_freed ds u x present (IsDistinct-tail same_slot d ds distinct))
    ]

-- ---- in a sound table, and at each join

-- in a sound table no two tasks sit in one slot
pub slots_differ : (t : Table) → IsSound t → AllPairs (λ d e. d.task.slot ≡ e.task.slot → ⊥) t.order
slots_differ t sound i j d before inside = eqb-false _ _ (apart_from_distinct same_slot t.order i j d sound.each_slot_once before inside)

-- nobody sits in the slot of a newcomer
pub newcomers_slot-free : (t : Table) → All (λ d. d.task.slot ≡ (newcomer t).slot → ⊥) t.order
newcomers_slot-free t k d inside = eqb-false _ _ (All-from_recursion (λ (e : Diner). (e.task.slot == (newcomer t).slot) ≡ false) t.order (AllByRecursion-none _ t.order (free_slot-unused t.order)) k d inside)

-- somebody sits in each slot below the newcomer's
pub newcomers_slot-least : (t : Table) (s : ℕ) → s < (newcomer t).slot → Any (λ d. d.task.slot ≡ s) t.order
newcomers_slot-least t s before =
    let (k, d, inside, at, is) = Any-from_list_any (λ (e : Diner). e.task.slot == s) t.order (used_before (length t.order) 0 t.order s (omega arith) before) in
    (k, d, inside, at, eqb-true d.task.slot s is)

-- where a join is accepted, the newcomer's slot is one that the limits allow
pub newcomers_slot-lt : (t : Table) → refusal_of t call.Join ≡ None → (newcomer t).slot < t.limits.tasks
newcomers_slot-lt t ok =
    let room : length t.order < t.limits.tasks = leb-false t.limits.tasks (length t.order) (passed (is_full t) Full None ok).0 in
    let low = free_slot_from-le (length t.order) 0 t.order in
    omega (arith, room, low)

-- no two tasks that are present sit in one slot
pub one_in_slot : (order : List Diner) → IsDistinct same_slot order → (u w : Task) → is_some (state_in order u) ≡ true → is_some (state_in order w) ≡ true → u.slot ≡ w.slot → u ≡ w
one_in_slot [] distinct u w here there same = absurd (let k : false ≡ true = here in cc)
one_in_slot (d ∷ ds) distinct u w here there same = elim (cases_Bool (same_task d.task u)) [
  | inl is_u ↦ elim (cases_Bool (same_task d.task w)) [
    | inl is_w ↦ sym (same_task-true d.task u is_u) ∙ same_task-true d.task w is_w
    | inr not_w ↦ absurd (clash w (rw not_w at there) (ap (λ (x : Task). x.slot) (same_task-true d.task u is_u) ∙ same))
  ]
  | inr not_u ↦ elim (cases_Bool (same_task d.task w)) [
    | inl is_w ↦ absurd (clash u (rw not_u at here) (ap (λ (x : Task). x.slot) (same_task-true d.task w is_w) ∙ sym same))
    | inr not_w ↦ one_in_slot ds (IsDistinct-tail same_slot d ds distinct) u w (rw not_u at here) (rw not_w at there) same
  ]
]
  where
    apart : (es : List Diner) → AllByRecursion (λ e. same_slot d e ≡ false) es → (x : Task) → is_some (state_in es x) ≡ true → d.task.slot ≡ x.slot → ⊥
    apart [] h x present slot = let k : false ≡ true = present in cc
    apart (e ∷ es) h x present slot = elim (cases_Bool (same_task e.task x)) [
      | inl is ↦ let k : true ≡ false = sym (eq-eqb d.task.slot e.task.slot (slot ∙ sym (ap (λ (y : Task). y.slot) (same_task-true e.task x is)))) ∙ h.0 in cc
      | inr isnt ↦ apart es h.1 x (rw isnt at present) slot
    ]

    clash : (x : Task) → is_some (state_in ds x) ≡ true → d.task.slot ≡ x.slot → ⊥
    clash x present slot = apart ds (IsDistinct-head same_slot d ds distinct) x present slot
