-- The list of a task's neighbours: it has whoever is in conflict with the task, each once.
use Rattle.std.proofs.Common.{◌≡◌, ◌↔◌, Bool, true, false, ◌&&◌, ◌||◌, List, [], ◌∷◌, get_or, Option, Some, None, inl, inr, refl, sym, ap, ◌∙◌}
use Rattle.std.specs.List.{AllPairs, Contains, IsDistinct, list_any, cons_option}
use Rattle.std.proofs.lemmas.Bool.{cases_Bool, and_parts}
use Rattle.std.proofs.lemmas.List.Folds.{list_any_at}
use Rattle.std.proofs.lemmas.Map.Keys.{IsDistinct-head, IsDistinct-tail, IsDistinct-cons, apart_from_distinct}
use Rattle.std.proofs.lemmas.Map.Views.{Contains-from_any}
use Rattle.dine_words.specs.declared.task.Task.{Task}
use Rattle.dine_table.specs.Table.{Table, same_task, is_between, are_in_conflict, neighbours_in, neighbours_of, other_end}
use Rattle.dine_table.specs.Sound.{IsSound, same_pair}
use Rattle.dine_table.proofs.Tasks.{same_task-refl, same_task-true}
use Rattle.dine_table.proofs.Lists.{IsDistinct-nil, AllByRecursion-none, list_any-none}
use Rattle.dine_table.proofs.Neighbours.{conflict_either_way}

-- ---- who is in it

-- a task is found, and it is v
abbrev is_named : Task → Option Task → Bool
is_named v None = false
is_named v (Some w) = same_task v w

-- a task is in a list that may have one more in front if it is that one, or in the rest
any-cons_option : (v : Task) (o : Option Task) (rest : List Task) → list_any (same_task v) (cons_option o rest) ≡ (is_named v o || list_any (same_task v) rest)
any-cons_option v None rest = refl
any-cons_option v (Some w) rest = refl

-- the other end of a conflict of u is v exactly where the conflict is between the two
other_end-is : (u v : Task) (c : Task × Task) → is_named v (other_end u c) ≡ is_between u v c
other_end-is u v c = elim (cases_Bool (same_task u c.0)) [
  | inl first ↦ elim (cases_Bool (same_task v c.1)) [
    | inl is ↦ rw (first, is) refl
    | inr other ↦ rw (first, other) (sym (neither first other))
  ]
  | inr not_first ↦ elim (cases_Bool (same_task u c.1)) [
    | inl second ↦ rw (not_first, second) refl
    | inr not_second ↦ rw (not_first, not_second) refl
  ]
]
  where
    neither : same_task u c.0 ≡ true → same_task v c.1 ≡ false → (same_task u c.1 && same_task v c.0) ≡ false
    neither first other = elim (cases_Bool (same_task u c.1 && same_task v c.0)) [
      | inl both ↦
          let parts = and_parts (same_task u c.1) (same_task v c.0) both in
          let is : v ≡ c.1 = same_task-true v c.0 parts.1 ∙ sym (same_task-true u c.0 first) ∙ same_task-true u c.1 parts.0 in
          absurd (let k : true ≡ false = sym (same_task-refl v) ∙ ap (same_task v) is ∙ other in cc)
      | inr free ↦ free
    ]

-- a task is among the neighbours exactly where it is in conflict with their task
pub neighbours_in-is : (u v : Task) (cs : List (Task × Task)) → list_any (same_task v) (neighbours_in cs u) ≡ list_any (is_between u v) cs
neighbours_in-is u v [] = refl
neighbours_in-is u v (c ∷ cs) =
    any-cons_option v (other_end u c) (neighbours_in cs u)
    ∙ ap (λ x. x || list_any (same_task v) (neighbours_in cs u)) (other_end-is u v c)
    ∙ ap (λ x. is_between u v c || x) (neighbours_in-is u v cs)

-- v is a neighbour of u exactly where the two are in conflict
pub neighbours_exactly : (t : Table) (u v : Task) → Contains (neighbours_of t u) v ↔ (are_in_conflict t u v ≡ true)
neighbours_exactly t u v = (there, here)
  where
    there : Contains (neighbours_of t u) v → are_in_conflict t u v ≡ true
    there found =
        let (k, inside, at) = found in
        let is : same_task v (get_or (neighbours_of t u) k v) ≡ true = ap (same_task v) at ∙ same_task-refl v in
        sym (neighbours_in-is u v t.conflicts) ∙ list_any_at (same_task v) (neighbours_of t u) k v inside is

    here : are_in_conflict t u v ≡ true → Contains (neighbours_of t u) v
    here apart = Contains-from_any {eq = same_task} same_task-true v (neighbours_of t u) (neighbours_in-is u v t.conflicts ∙ apart)

-- ---- each once

-- u and the other end of its conflict are the two ends
any_between_ends : (u v : Task) (c : Task × Task) (cs : List (Task × Task)) → other_end u c ≡ Some v → list_any (is_between u v) cs ≡ list_any (same_pair c) cs
any_between_ends u v c cs e = elim (cases_Bool (same_task u c.0)) [
  | inl first ↦
      let named : Some c.1 ≡ Some v = rw first at e in
      let is_v : c.1 ≡ v = cc in
      ap (λ x. list_any (is_between x v) cs) (same_task-true u c.0 first) ∙ ap (λ x. list_any (is_between c.0 x) cs) (sym is_v)
  | inr not_first ↦ elim (cases_Bool (same_task u c.1)) [
    | inl second ↦
        let named : Some c.0 ≡ Some v = rw (not_first, second) at e in
        let is_v : c.0 ≡ v = cc in
        conflict_either_way u v cs ∙ ap (λ x. list_any (is_between v x) cs) (same_task-true u c.1 second) ∙ ap (λ x. list_any (is_between x c.1) cs) (sym is_v)
    | inr not_second ↦ absurd (let k : None ≡ Some v = rw (not_first, not_second) at e in cc)
  ]
]

-- where each conflict stands once, so does each neighbour
neighbours_in-distinct : (u : Task) (cs : List (Task × Task)) → IsDistinct same_pair cs → IsDistinct same_task (neighbours_in cs u)
neighbours_in-distinct u [] h = IsDistinct-nil same_task
neighbours_in-distinct u (c ∷ cs) h = step (neighbours_in-distinct u cs (IsDistinct-tail same_pair c cs h)) (other_end u c) refl
  where
    step : IsDistinct same_task (neighbours_in cs u) → (o : Option Task) → other_end u c ≡ o → IsDistinct same_task (cons_option o (neighbours_in cs u))
    step rest None e = rest
    step rest (Some v) e =
        let others : list_any (same_pair c) cs ≡ false = list_any-none (same_pair c) cs (IsDistinct-head same_pair c cs h) in
        IsDistinct-cons same_task v (neighbours_in cs u) (AllByRecursion-none (same_task v) (neighbours_in cs u) (neighbours_in-is u v cs ∙ any_between_ends u v c cs e ∙ others)) rest

-- in a sound table the neighbours of a task differ
pub neighbours_differ : (t : Table) (u : Task) → IsSound t → AllPairs (λ v w. v ≡ w → ⊥) (neighbours_of t u)
neighbours_differ t u sound i j d before inside same =
    let apart : same_task (get_or (neighbours_of t u) i d) (get_or (neighbours_of t u) j d) ≡ false = apart_from_distinct same_task (neighbours_of t u) i j d (neighbours_in-distinct u t.conflicts sound.each_pair_once) before inside in
    let k : true ≡ false = sym (same_task-refl (get_or (neighbours_of t u) i d)) ∙ ap (same_task (get_or (neighbours_of t u) i d)) same ∙ apart in
    cc
