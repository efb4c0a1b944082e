-- Each table that calls reach is sound.
use Rattle.std.proofs.Common.{◌≡◌, ℕ, ◌+◌, ◌<◌, ◌≤◌, Bool, true, false, List, [], ◌∷◌, ◌++◌, length, Option, Some, None, is_some, inl, inr, refl, ap, subst, arith}
use Rattle.std.specs.List.{AllByRecursion, filter, list_any}
use Rattle.std.specs.Prelude.{not, ◌&&◌, IsSome}
use Rattle.std.proofs.lemmas.Bool.{cases_Bool, and_parts, leb-false, not-true}
use Rattle.std.proofs.lemmas.List.{length-append, length-map}
use Rattle.dine_words.specs.declared.task.Task.{Task}
use Rattle.dine_words.specs.declared.task.State.{State}
use Rattle.dine_words.specs.declared.task.State.TheVariants.{Thinking, Hungry, Eating}
use Rattle.dine_words.specs.declared.task.Diner.{Diner}
use Rattle.dine_words.specs.declared.call.Call.{Call}
use Rattle.dine_words.specs.declared.call.Call.TheVariants as call
use Rattle.dine_words.specs.declared.call.Refusal.{Refusal}
use Rattle.dine_words.specs.declared.call.Refusal.TheVariants.{Full, Unknown, Same, Already, BothEating, NoRoom}
use Rattle.dine_words.specs.declared.limits.Limits.{Limits}
use Rattle.dine_words.specs.declared.entry.Entry.{Entry}
use Rattle.dine_table.specs.Table.{Table, opening_table, same_task, state_in, state_of, is_in, is_between, has_end, are_in_conflict, is_ready, keeps_waiting, neighbours_of}
use Rattle.dine_table.specs.Calls.{is_full, has_no_room, is_absent, refusal_unless, refusal_of, changed_by, table_after_call, newcomer, diner_put_in, with_state, without, moved_last}
use Rattle.dine_table.specs.History.{table_from, table_after}
use Rattle.dine_table.specs.Sound.{IsSound, NoNeighboursEat, same_pair, same_slot}
use Rattle.dine_table.proofs.Tasks.{same_task-true}
use Rattle.dine_table.proofs.Lists.{AllByRecursion-filter, AllByRecursion-push, IsDistinct-nil, IsDistinct-filter, length-filter-le}
use Rattle.dine_table.proofs.Order.{diner_put_in-task, state_in-without_same}
use Rattle.dine_table.proofs.Accepted.{found, newcomer_absent, passed, present, or_else-None, ready_if}
use Rattle.dine_table.proofs.Once.{each_once-append, each_once-with_state, each_once-without}
use Rattle.dine_table.proofs.Slots.{free_slot-unused, each_slot_once-append, each_slot_once-with_state, slot_freed}
use Rattle.dine_table.proofs.Neighbours.{each_pair_once-append, ends_present-weaker, stay-append, stay-with_state, stay-moved_last, ends_present-leave, no_neighbours_eat-weaker, nobody_begins-append, nobody_begins-without, nobody_begins-with_state, nobody_begins-moved_last, no_neighbours_eat-begin}

-- ---- when the tasks were born

-- each of them was born before the clock
abbrev BornBefore : ℕ → List Diner → Type 0
BornBefore clock order = AllByRecursion (λ d. d.task.born < clock) order

-- whoever was born before the clock was born before the next
born_later : (clock : ℕ) (order : List Diner) → BornBefore clock order → BornBefore (clock + 1) order
born_later clock [] h = tt
born_later clock (d ∷ ds) h = (let less : d.task.born < clock = h.0 in omega arith, born_later clock ds h.1)

-- a task that gets a state was born when it was
born_with_state : (clock : ℕ) (s : State) (u : Task) (order : List Diner) → BornBefore clock order → BornBefore clock (with_state s u order)
born_with_state clock s u [] h = tt
born_with_state clock s u (d ∷ ds) h = (rw (diner_put_in-task s u d) h.0, born_with_state clock s u ds h.1)

-- whoever is present was born before the clock
born_present : (clock : ℕ) (u : Task) (x : State) (order : List Diner) → state_in order u ≡ Some x → BornBefore clock order → u.born < clock
born_present clock u x [] p h = absurd (let k : None ≡ Some x = p in cc)
born_present clock u x (d ∷ ds) p h = elim (cases_Bool (same_task d.task u)) [
  | inl e ↦ subst (λ (w : Task). w.born < clock) (same_task-true d.task u e) h.0
  | inr e ↦ born_present clock u x ds (rw e at p) h.1
]

-- ---- how many tasks there are

-- a list with one more is longer by one
length-push : {X : Type 0} (xs : List X) (y : X) → length (xs ++ y ∷ []) ≡ length xs + 1
length-push xs y = length-append xs (y ∷ [])

-- whoever is taken out leaves one fewer
length-without : (u : Task) (x : State) (order : List Diner) → state_in order u ≡ Some x → length (without u order) + 1 ≤ length order
length-without u x [] h = absurd (let k : None ≡ Some x = h in cc)
length-without u x (d ∷ ds) h = elim (cases_Bool (same_task d.task u)) [
  | inl e ↦ let rest = length-filter-le (λ (w : Diner). not (same_task w.task u)) ds in rw e (omega (arith, rest))
  | inr e ↦ let rest = length-without u x ds (rw e at h) in rw e (omega (arith, rest))
]

-- ---- each accepted call

module _ (t : Table) (h : IsSound t) where
  sound_join : is_full t ≡ false → IsSound (changed_by t call.Join)
  sound_join space =
      let d : Diner = record { task = newcomer t; state = Thinking } in
      let room : length t.order < t.limits.tasks = leb-false t.limits.tasks (length t.order) space in
      record {
        each_once = each_once-append t.order d h.each_once (newcomer_absent t.order t.clock (newcomer t) refl h.born_before);
        each_slot_once = each_slot_once-append t.order d h.each_slot_once (free_slot-unused t.order);
        ends_differ = h.ends_differ;
        ends_present = ends_present-weaker t.order (t.order ++ d ∷ []) (stay-append t.order d) t.conflicts h.ends_present;
        each_pair_once = h.each_pair_once;
        no_neighbours_eat = no_neighbours_eat-weaker t.order (t.order ++ d ∷ []) (nobody_begins-append t.order (newcomer t)) t.conflicts h.no_neighbours_eat;
        born_before = AllByRecursion-push _ t.order d (born_later t.clock t.order h.born_before) (omega arith);
        few_tasks = rw (length-push t.order d) (omega (arith, room));
        few_conflicts = h.few_conflicts;
      }

  sound_leave : (u : Task) → IsSound (changed_by t (call.Leave u))
  sound_leave u =
      let stays : Task × Task → Bool = λ c. not (has_end u c) in
      record {
        each_once = each_once-without u t.order h.each_once;
        each_slot_once = IsDistinct-filter same_slot _ t.order h.each_slot_once;
        ends_differ = AllByRecursion-filter _ _ t.conflicts h.ends_differ;
        ends_present = ends_present-leave u t.order t.conflicts h.ends_present;
        each_pair_once = IsDistinct-filter same_pair _ t.conflicts h.each_pair_once;
        no_neighbours_eat = no_neighbours_eat-weaker t.order (without u t.order) (nobody_begins-without u t.order) (filter stays t.conflicts) (AllByRecursion-filter _ _ t.conflicts h.no_neighbours_eat);
        born_before = AllByRecursion-filter _ _ t.order h.born_before;
        few_tasks = let fewer = length-filter-le (λ (d : Diner). not (same_task d.task u)) t.order in let few = h.few_tasks in omega (arith, fewer, few);
        few_conflicts = let fewer = length-filter-le stays t.conflicts in let few = h.few_conflicts in omega (arith, fewer, few);
      }

  sound_conflict : (u v : Task) → is_absent t u ≡ false → is_absent t v ≡ false → same_task u v ≡ false → are_in_conflict t u v ≡ false → (is_in Eating t.order u && is_in Eating t.order v) ≡ false → has_no_room t ≡ false → IsSound (changed_by t (call.Conflict u v))
  sound_conflict u v here there differ apart rest space =
      let room : length t.conflicts < t.limits.conflicts = leb-false t.limits.conflicts (length t.conflicts) space in
      let some_u : IsSome (state_of t u) = ap is_some (present (state_of t u) here).1 in
      let some_v : IsSome (state_of t v) = ap is_some (present (state_of t v) there).1 in
      record {
        each_once = h.each_once;
        each_slot_once = h.each_slot_once;
        ends_differ = AllByRecursion-push _ t.conflicts (u, v) h.ends_differ differ;
        ends_present = AllByRecursion-push _ t.conflicts (u, v) h.ends_present (some_u, some_v);
        each_pair_once = each_pair_once-append t.conflicts u v h.each_pair_once apart;
        no_neighbours_eat = AllByRecursion-push _ t.conflicts (u, v) h.no_neighbours_eat rest;
        born_before = h.born_before;
        few_tasks = h.few_tasks;
        few_conflicts = rw (length-push t.conflicts (u, v)) (omega (arith, room));
      }

  sound_separate : (u v : Task) → IsSound (changed_by t (call.Separate u v))
  sound_separate u v = record {
    each_once = h.each_once;
    each_slot_once = h.each_slot_once;
    ends_differ = AllByRecursion-filter _ _ t.conflicts h.ends_differ;
    ends_present = AllByRecursion-filter _ _ t.conflicts h.ends_present;
    each_pair_once = IsDistinct-filter same_pair _ t.conflicts h.each_pair_once;
    no_neighbours_eat = AllByRecursion-filter _ _ t.conflicts h.no_neighbours_eat;
    born_before = h.born_before;
    few_tasks = h.few_tasks;
    few_conflicts = let fewer = length-filter-le (λ c. not (is_between u v c)) t.conflicts in let few = h.few_conflicts in omega (arith, fewer, few);
  }

  -- a task that gets a state keeps its place, so no more is to be shown than that no two neighbours eat then
  sound_with_state : (s : State) (u : Task) → NoNeighboursEat (with_state s u t.order) t.conflicts → IsSound (record t { order = with_state s u t.order })
  sound_with_state s u rest = record {
    each_once = each_once-with_state s u t.order h.each_once;
    each_slot_once = each_slot_once-with_state s u t.order h.each_slot_once;
    ends_differ = h.ends_differ;
    ends_present = ends_present-weaker t.order (with_state s u t.order) (stay-with_state s u t.order) t.conflicts h.ends_present;
    each_pair_once = h.each_pair_once;
    no_neighbours_eat = rest;
    born_before = born_with_state t.clock s u t.order h.born_before;
    few_tasks = rw (length-map t.order (diner_put_in s u)) h.few_tasks;
    few_conflicts = h.few_conflicts;
  }

  sound_hungry : (u : Task) → IsSound (changed_by t (call.Hungry u))
  sound_hungry u = sound_with_state Hungry u (no_neighbours_eat-weaker t.order (with_state Hungry u t.order) (nobody_begins-with_state Hungry refl u t.order) t.conflicts h.no_neighbours_eat)

  sound_begin : (u : Task) → is_ready t u ≡ true → IsSound (changed_by t (call.Begin u))
  sound_begin u ready =
      let free = not-true (list_any (keeps_waiting t.order u) (neighbours_of t u)) (and_parts (is_in Hungry t.order u) (not (list_any (keeps_waiting t.order u) (neighbours_of t u))) ready).1 in
      sound_with_state Eating u (no_neighbours_eat-begin u t.order t.conflicts h.ends_differ free h.no_neighbours_eat)

  sound_finish : (u : Task) → state_of t u ≡ Some Eating → IsSound (changed_by t (call.Finish u))
  sound_finish u eats =
      let d : Diner = record { task = u; state = Thinking } in
      let less : u.born < t.clock = born_present t.clock u Eating t.order eats h.born_before in
      record {
        each_once = each_once-append (without u t.order) d (each_once-without u t.order h.each_once) (state_in-without_same u t.order);
        each_slot_once = each_slot_once-append (without u t.order) d (IsDistinct-filter same_slot _ t.order h.each_slot_once) (slot_freed t.order u Eating eats h.each_slot_once);
        ends_differ = h.ends_differ;
        ends_present = ends_present-weaker t.order (moved_last u t.order) (stay-moved_last u t.order) t.conflicts h.ends_present;
        each_pair_once = h.each_pair_once;
        no_neighbours_eat = no_neighbours_eat-weaker t.order (moved_last u t.order) (nobody_begins-moved_last u t.order) t.conflicts h.no_neighbours_eat;
        born_before = AllByRecursion-push _ (without u t.order) d (AllByRecursion-filter _ _ t.order (born_later t.clock t.order h.born_before)) (omega arith);
        few_tasks = let fewer = length-without u Eating t.order eats in let few = h.few_tasks in rw (length-push (without u t.order) d) (omega (arith, fewer, few));
        few_conflicts = h.few_conflicts;
      }

  sound_withdraw : (u : Task) → IsSound (changed_by t (call.Withdraw u))
  sound_withdraw u = sound_with_state Thinking u (no_neighbours_eat-weaker t.order (with_state Thinking u t.order) (nobody_begins-with_state Thinking refl u t.order) t.conflicts h.no_neighbours_eat)

-- an accepted call leaves a sound table sound
sound_accepted : (t : Table) (c : Call) → refusal_of t c ≡ None → IsSound t → IsSound (changed_by t c)
sound_accepted t call.Join ok h = sound_join t h (passed (is_full t) Full None ok).0
sound_accepted t (call.Leave u) ok h = sound_leave t h u
sound_accepted t (call.Conflict u v) ok h =
    let p1 = passed (is_absent t u) Unknown _ ok in
    let p2 = passed (is_absent t v) Unknown _ p1.1 in
    let p3 = passed (same_task u v) Same _ p2.1 in
    let p4 = passed (are_in_conflict t u v) Already _ p3.1 in
    let p5 = passed (is_in Eating t.order u && is_in Eating t.order v) BothEating _ p4.1 in
    let p6 = passed (has_no_room t) NoRoom None p5.1 in
    sound_conflict t h u v p1.0 p2.0 p3.0 p4.0 p5.0 p6.0
sound_accepted t (call.Separate u v) ok h = sound_separate t h u v
sound_accepted t (call.Hungry u) ok h = sound_hungry t h u
sound_accepted t (call.Begin u) ok h = sound_begin t h u (ready_if (is_ready t u) (or_else-None (refusal_unless Hungry (state_of t u)) _ ok).1)
sound_accepted t (call.Finish u) ok h = sound_finish t h u (found Eating (state_of t u) ok)
sound_accepted t (call.Withdraw u) ok h = sound_withdraw t h u

-- each call leaves a sound table
pub sound_after_call : (t : Table) (c : Call) → IsSound t → IsSound (table_after_call t c)
sound_after_call t c h = go (refusal_of t c) refl
  where
    go : (o : Option Refusal) → refusal_of t c ≡ o → IsSound (table_after_call t c)
    go None e = rw e (sound_accepted t c e h)
    go (Some r) e = rw e h

-- the table at the opening is sound
pub sound_at_opening : (limits : Limits) → IsSound (opening_table limits)
sound_at_opening limits = record {
  each_once = tt;
  each_slot_once = IsDistinct-nil same_slot;
  ends_differ = tt;
  ends_present = tt;
  each_pair_once = IsDistinct-nil same_pair;
  no_neighbours_eat = tt;
  born_before = tt;
  few_tasks = omega arith;
  few_conflicts = omega arith;
}

-- each history leaves a sound table sound
pub sound_from : (t : Table) (history : List Entry) → IsSound t → IsSound (table_from t history)
sound_from t [] h = h
sound_from t (e ∷ es) h = sound_from (table_after_call t e.call) es (sound_after_call t e.call h)

-- whatever was called
pub sound_after : (limits : Limits) (history : List Entry) → IsSound (table_after limits history)
sound_after limits history = sound_from (opening_table limits) history (sound_at_opening limits)
