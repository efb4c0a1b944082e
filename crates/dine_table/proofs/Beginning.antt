-- When a task begins, told of each of its neighbours.
use Rattle.std.proofs.Common.{◌≡◌, ◌↔◌, Bool, true, false, not, ◌&&◌, List, [], ◌∷◌, Option, Some, None, inl, inr, refl, sym, ap, ◌∙◌}
use Rattle.std.specs.List.{list_any}
use Rattle.std.proofs.lemmas.Bool.{cases_Bool, and_parts, and_from, not-true, not_from_false, false_from_ne_true, or_parts, or_from, or_left, or_right}
use Rattle.dine_words.specs.declared.task.Task.{Task}
use Rattle.dine_words.specs.declared.task.State.{State}
use Rattle.dine_words.specs.declared.task.State.TheVariants.{Hungry, Eating}
use Rattle.dine_words.specs.declared.call.Call.TheVariants as call
use Rattle.dine_words.specs.declared.call.Refusal.{Refusal}
use Rattle.dine_words.specs.declared.call.Reply.TheVariants.{Done, Refused}
use Rattle.dine_table.specs.Table.{Table, same_task, is_found, is_in, state_of, stands_before, is_between, are_in_conflict, keeps_waiting, neighbours_in, neighbours_of, is_ready}
use Rattle.dine_table.specs.Calls.{refusal_unless, refusal_of, reply_of}
use Rattle.dine_table.specs.Sound.{IsSound, MayBegin}
use Rattle.dine_table.proofs.Tasks.{same_task-refl, same_task-true}
use Rattle.dine_table.proofs.Accepted.{same_state-true, or_else-None, ready_if}
use Rattle.dine_table.proofs.Neighbours.{conflict_differs, conflict_either_way, neighbour_passes}

-- v doesn't eat, nor is it hungry with an earlier last meal
abbrev ComesLater : Table → Task → Task → Type 0
ComesLater t u v = (state_of t v ≡ Some Eating → ⊥) × (state_of t v ≡ Some Hungry → stands_before t.order v u ≡ false)

-- ---- one task beside u

-- a state that is found to be s is s
found_is : (s : State) (o : Option State) → is_found s o ≡ true → o ≡ Some s
found_is s None h = absurd (let k : false ≡ true = h in cc)
found_is s (Some x) h = ap (λ y. Some y) (same_state-true s x h)

-- v doesn't keep u waiting
lets_begin : (t : Table) (u v : Task) → keeps_waiting t.order u v ≡ false → ComesLater t u v
lets_begin t u v h =
    let parts = or_parts (is_in Eating t.order v) (is_in Hungry t.order v && stands_before t.order v u) h in (
      λ eats. (let k : true ≡ false = ap (is_found Eating) (sym eats) ∙ parts.0 in cc),
      λ hungry. (rw hungry at parts.1),
    )

-- a neighbour that comes later keeps nobody waiting
keeps_if : (t : Table) (u v : Task) → ComesLater t u v → keeps_waiting t.order u v ≡ false
keeps_if t u v h = or_from (is_in Eating t.order v) (is_in Hungry t.order v && stands_before t.order v u) (false_from_ne_true (is_in Eating t.order v) (λ e. h.0 (found_is Eating (state_of t v) e))) second
  where
    second : (is_in Hungry t.order v && stands_before t.order v u) ≡ false
    second = elim (cases_Bool (is_in Hungry t.order v)) [
      | inl e ↦ rw e (h.1 (found_is Hungry (state_of t v) e))
      | inr e ↦ rw e refl
    ]

-- ---- all neighbours of u

-- what passes nobody in conflict with u passes no neighbour
none_beside : (p : Task → Bool) (u : Task) (cs : List (Task × Task)) → ((v : Task) → list_any (is_between u v) cs ≡ true → p v ≡ false) → list_any p (neighbours_in cs u) ≡ false
none_beside p u [] h = refl
none_beside p u (c ∷ cs) h =
    let rest : list_any p (neighbours_in cs u) ≡ false = none_beside p u cs (λ v apart. h v (or_right (is_between u v c) (list_any (is_between u v) cs) apart)) in
    elim (cases_Bool (same_task u c.0)) [
      | inl first ↦ rw first (or_from (p c.1) (list_any p (neighbours_in cs u)) (h c.1 (rw (first, same_task-refl c.1) refl)) rest)
      | inr not_first ↦ elim (cases_Bool (same_task u c.1)) [
        | inl second ↦ rw (not_first, second) (or_from (p c.0) (list_any p (neighbours_in cs u)) (h c.0 (or_left (is_between u c.0 c) (list_any (is_between u c.0) cs) (or_right (same_task u c.0 && same_task c.0 c.1) (same_task u c.1 && same_task c.0 c.0) (and_from (same_task u c.1) (same_task c.0 c.0) second (same_task-refl c.0))))) rest)
        | inr not_second ↦ rw (not_first, not_second) rest
      ]
    ]

-- a ready task may begin
ready_may : (t : Table) (u : Task) → IsSound t → is_ready t u ≡ true → MayBegin t u
ready_may t u sound ready = record { hungry = found_is Hungry (state_of t u) parts.0; none_eats = λ v apart. (lets v apart).0; none_earlier = λ v apart. (lets v apart).1 }
  where
    parts : (is_in Hungry t.order u ≡ true) × (not (list_any (keeps_waiting t.order u) (neighbours_of t u)) ≡ true)
    parts = and_parts (is_in Hungry t.order u) (not (list_any (keeps_waiting t.order u) (neighbours_of t u))) ready

    differ : (v : Task) → are_in_conflict t u v ≡ true → same_task v u ≡ false
    differ v apart = false_from_ne_true (same_task v u) (λ e. conflict_differs t sound u v apart (sym (same_task-true v u e)))

    lets : (v : Task) → are_in_conflict t u v ≡ true → ComesLater t u v
    lets v apart = lets_begin t u v (neighbour_passes (keeps_waiting t.order u) v u t.conflicts (differ v apart) (conflict_either_way v u t.conflicts ∙ apart) (not-true (list_any (keeps_waiting t.order u) (neighbours_of t u)) parts.1))

-- a task that may begin is ready
may_ready : (t : Table) (u : Task) → MayBegin t u → is_ready t u ≡ true
may_ready t u may = and_from (is_in Hungry t.order u) (not (list_any (keeps_waiting t.order u) (neighbours_of t u))) (rw may.hungry refl) (not_from_false (list_any (keeps_waiting t.order u) (neighbours_of t u)) (none_beside (keeps_waiting t.order u) u t.conflicts (λ v apart. keeps_if t u v (may.none_eats v apart, may.none_earlier v apart))))

-- a task is ready exactly where it may begin
pub ready_exactly : (t : Table) (u : Task) → IsSound t → (is_ready t u ≡ true) ↔ MayBegin t u
ready_exactly t u sound = (ready_may t u sound, may_ready t u)

-- ---- the reply

-- a begin that is answered `done` is a ready task's
done_ready : (t : Table) (u : Task) → reply_of t (call.Begin u) ≡ Done → is_ready t u ≡ true
done_ready t u said = go (refusal_of t (call.Begin u)) refl
  where
    go : (o : Option Refusal) → refusal_of t (call.Begin u) ≡ o → is_ready t u ≡ true
    go None e = ready_if (is_ready t u) (or_else-None (refusal_unless Hungry (state_of t u)) _ e).1
    go (Some r) e = absurd (let k : Refused r ≡ Done = rw e at said in cc)

-- a ready task's begin is answered `done`
ready_done : (t : Table) (u : Task) → state_of t u ≡ Some Hungry → is_ready t u ≡ true → reply_of t (call.Begin u) ≡ Done
ready_done t u hungry ready = rw (ready, hungry) refl

-- a begin is answered Done exactly there
pub begins_exactly : (t : Table) (u : Task) → IsSound t → (reply_of t (call.Begin u) ≡ Done) ↔ MayBegin t u
begins_exactly t u sound = (λ said. ready_may t u sound (done_ready t u said), λ may. ready_done t u may.hungry (may_ready t u may))
