-- Who blocks a task is a neighbour that keeps it waiting, and who is ready is one of those that may begin.
use Rattle.std.proofs.Common.{◌≡◌, ◌↔◌, Bool, true, false, ◌&&◌, not, List, [], ◌∷◌, map, Some, is_some, inl, inr, refl, sym, ap, ◌∙◌, arith}
use Rattle.std.specs.List.{Contains, filter, find, list_any}
use Rattle.std.specs.Prelude.{option_map, slice_get}
use Rattle.std.proofs.lemmas.Bool.{cases_Bool, and_parts, and_from, false_from_ne_true, not-true, or_parts}
use Rattle.std.proofs.lemmas.List.Folds.{list_any_at}
use Rattle.std.proofs.lemmas.Map.Views.{Contains-from_any}
use Rattle.dine_words.specs.declared.task.Diner.{Diner}
use Rattle.dine_words.specs.declared.task.Task.{Task}
use Rattle.dine_words.specs.declared.task.State.TheVariants.{Hungry, Eating}
use Rattle.dine_table.specs.Table.{Table, same_task, state_in, state_of, are_in_conflict, is_in, keeps_waiting, stands_before, neighbours_of, is_ready, next_ready_of}
use Rattle.dine_table.specs.Waiting.{blockers_of, ready_of}
use Rattle.dine_table.proofs.Tasks.{same_task-refl, same_task-sym, same_task-true}
use Rattle.dine_table.specs.Sound.{IsSound}
use Rattle.dine_table.proofs.NeighbourList.{neighbours_in-is}
use Rattle.dine_table.proofs.Neighbours.{conflict_differs, conflict_either_way, conflict_present, neighbour_passes}
use Rattle.dine_table.proofs.Order.{stands_before-other_way}
use Rattle.dine_table.proofs.NextReady.{ready_present}

-- ---- who is in a list

-- a task is in a list exactly where some task there is the same
in_list : (us : List Task) (v : Task) → Contains us v ↔ (list_any (same_task v) us ≡ true)
in_list us v = (there, Contains-from_any {eq = same_task} same_task-true v us)
  where
    there : Contains us v → list_any (same_task v) us ≡ true
    there (k, inside, at) = list_any_at (same_task v) us k v inside (ap (same_task v) at ∙ same_task-refl v)

-- those that pass have a task exactly where the list has it, and it passes
any-filtered : (p : Task → Bool) (v : Task) (us : List Task) → list_any (same_task v) (filter p us) ≡ (p v && list_any (same_task v) us)
any-filtered p v [] = grind arith
any-filtered p v (x ∷ xs) = grind (arith, same_task-true v x, any-filtered p v xs)

-- the names of those that pass have a task exactly where it passes and stands in the order
any-named : (p : Task → Bool) (u : Task) (order : List Diner) → list_any (same_task u) (map (λ d. d.task) (filter (λ d. p d.task) order)) ≡ (p u && is_some (state_in order u))
any-named p u [] = grind arith
any-named p u (d ∷ ds) = grind (arith, same_task-sym d.task u, same_task-true d.task u, any-named p u ds)

-- ---- those who block a task

-- nobody of a list passes exactly where those that do are none
none-filtered : (p : Task → Bool) (us : List Task) → (not (list_any p us) ≡ true) ↔ (filter p us ≡ [])
none-filtered p us = (none p us, back p us)
  where
    none : (p : Task → Bool) (us : List Task) → not (list_any p us) ≡ true → filter p us ≡ []
    none p [] h = refl
    none p (x ∷ xs) h = grind (arith, none p xs)

    back : (p : Task → Bool) (us : List Task) → filter p us ≡ [] → not (list_any p us) ≡ true
    back p [] h = refl
    back p (x ∷ xs) h = elim (cases_Bool (p x)) [
      | inl e ↦ absurd (let k : x ∷ filter p xs ≡ [] = rw e at h in cc)
      | inr e ↦ rw e (back p xs (rw e at h))
    ]

module _ (t : Table) (u : Task) (hungry : state_of t u ≡ Some Hungry) where
  -- the blockers of a hungry task are the neighbours that keep it waiting
  are_filtered : blockers_of t u ≡ filter (keeps_waiting t.order u) (neighbours_of t u)
  are_filtered = rw hungry refl

  -- a task blocks it exactly where the two are in conflict, and it keeps the hungry one waiting
  pub blockers_exactly : (v : Task) → Contains (blockers_of t u) v ↔ ((are_in_conflict t u v ≡ true) × (keeps_waiting t.order u v ≡ true))
  blockers_exactly v = (
    λ found. let parts = and_parts (keeps_waiting t.order u v) (are_in_conflict t u v) (sym is ∙ (in_list (blockers_of t u) v).0 found) in (parts.1, parts.0),
    λ (apart, waits). (in_list (blockers_of t u) v).1 (is ∙ and_from (keeps_waiting t.order u v) (are_in_conflict t u v) waits apart),
  )
    where
      is : list_any (same_task v) (blockers_of t u) ≡ (keeps_waiting t.order u v && are_in_conflict t u v)
      is = ap (list_any (same_task v)) are_filtered ∙ any-filtered (keeps_waiting t.order u) v (neighbours_of t u) ∙ ap (λ b. keeps_waiting t.order u v && b) (neighbours_in-is u v t.conflicts)

  -- it may begin exactly where nobody blocks it
  pub ready_where_unblocked : (is_ready t u ≡ true) ↔ (blockers_of t u ≡ [])
  ready_where_unblocked =
      let ready : is_ready t u ≡ not (list_any (keeps_waiting t.order u) (neighbours_of t u)) = rw hungry refl in
      let none = none-filtered (keeps_waiting t.order u) (neighbours_of t u) in
      (λ h. are_filtered ∙ none.0 (sym ready ∙ h), λ h. ready ∙ none.1 (sym are_filtered ∙ h))

-- ---- those who may begin

-- they are those who are ready
pub ready_members : (t : Table) (u : Task) → Contains (ready_of t) u ↔ (is_ready t u ≡ true)
ready_members t u = (
  λ found. (and_parts (is_ready t u) (is_some (state_of t u)) (sym is ∙ (in_list (ready_of t) u).0 found)).0,
  λ ready. let (x, here) = ready_present t u ready in (in_list (ready_of t) u).1 (is ∙ and_from (is_ready t u) (is_some (state_of t u)) ready (ap is_some here)),
)
  where
    is : list_any (same_task u) (ready_of t) ≡ (is_ready t u && is_some (state_of t u))
    is = any-named (is_ready t) u t.order

-- who is ready is hungry, and a hungry neighbour stands behind it
ready_first : (t : Table) (u v : Task) → IsSound t → are_in_conflict t v u ≡ true → is_ready t u ≡ true → is_in Hungry t.order v ≡ true → stands_before t.order v u ≡ false
ready_first t u v sound apart ready hungry =
    let free = (and_parts (is_in Hungry t.order u) (not (list_any (keeps_waiting t.order u) (neighbours_of t u))) ready).1 in
    let calm = neighbour_passes (keeps_waiting t.order u) v u t.conflicts (other v u (conflict_differs t sound v u apart)) apart (not-true (list_any (keeps_waiting t.order u) (neighbours_of t u)) free) in
    let both = (or_parts (is_in Eating t.order v) (is_in Hungry t.order v && stands_before t.order v u) calm).1 in
    rw hungry at both
  where
    other : (a b : Task) → (a ≡ b → ⊥) → same_task a b ≡ false
    other a b ne = false_from_ne_true (same_task a b) (λ same. ne (same_task-true a b same))

-- no two who may begin are in conflict
pub ready_apart : (t : Table) (u v : Task) → IsSound t → is_ready t u ≡ true → is_ready t v ≡ true → are_in_conflict t u v ≡ false
ready_apart t u v sound u_ready v_ready = false_from_ne_true (are_in_conflict t u v) (λ apart.
    let u_hungry = (and_parts (is_in Hungry t.order u) (not (list_any (keeps_waiting t.order u) (neighbours_of t u))) u_ready).0 in
    let v_hungry = (and_parts (is_in Hungry t.order v) (not (list_any (keeps_waiting t.order v) (neighbours_of t v))) v_ready).0 in
    let behind = ready_first t u v sound (conflict_either_way v u t.conflicts ∙ apart) u_ready v_hungry in
    let before = ready_first t v u sound apart v_ready u_hungry in
    let ends = conflict_present t sound u v apart in
    let differ : same_task u v ≡ false = false_from_ne_true (same_task u v) (λ same. conflict_differs t sound u v apart (same_task-true u v same)) in
    let order = stands_before-other_way t.order u v differ ends.0 ends.1 in
    let k : false ≡ true = sym behind ∙ order ∙ ap not before in
    cc)

-- the first of those that pass is the one that a search finds
first_found : (p : Diner → Bool) (order : List Diner) → option_map (λ d. d.task) (find p order) ≡ slice_get (map (λ d. d.task) (filter p order)) 0
first_found p [] = refl
first_found p (d ∷ ds) = elim (cases_Bool (p d)) [ inl e ↦ rw e refl | inr e ↦ rw e (first_found p ds) ]

-- so the next one is the first of them
pub next_ready-head : (t : Table) → next_ready_of t ≡ slice_get (ready_of t) 0
next_ready-head t = first_found (λ d. is_ready t d.task) t.order
