-- Those who run are those who eat, after each call of a scheduler.
use Rattle.std.proofs.Common.{◌≡◌, ◌≢◌, ℕ, ◌<◌, ◌≤◌, Bool, true, false, not, cond, List, [], ◌∷◌, ◌++◌, length, Option, Some, None, inl, inr, refl, sym, ap, ◌∙◌, subst, arith}
use Rattle.std.specs.List.{filter}
use Rattle.std.proofs.lemmas.Bool.{cases_Bool, false_from_ne_true}
use Rattle.dine_words.specs.declared.task.Task.{Task}
use Rattle.dine_words.specs.declared.task.Diner.{Diner}
use Rattle.dine_words.specs.declared.task.State.{State}
use Rattle.dine_words.specs.declared.task.State.TheVariants.{Thinking, Hungry, Eating}
use Rattle.dine_words.specs.declared.call.Call.TheVariants as call
use Rattle.dine_table.specs.Table.{Table, same_state, same_task, is_found, is_in, state_in, state_of, are_in_conflict, next_ready_of}
use Rattle.dine_table.specs.Calls.{changed_by, newcomer, refusal_of, with_state}
use Rattle.dine_table.specs.Sound.{IsSound}
use Rattle.dine_table.proofs.CallerLemmas.{found, neighbours_rest, newcomer_absent, same_task-refl, same_task-sym, same_task-true}
use Rattle.dine_journal.proofs.CallerLemmas.{state-changed}
use Rattle.dine_uses.specs.Running.{IsScheduled, hungry_in, runs}
use Rattle.dine_uses.proofs.Accepting.{differs, found_is, next_is_hungry}

-- ---- the list of those who run

-- one more on the list runs too
pub runs-push : (running : List Task) (w u : Task) → runs (running ++ w ∷ []) u ≡ cond (same_task w u) true (runs running u)
runs-push [] w u = elim (cases_Bool (same_task w u)) [
  | inl e ↦ rw (same_task-sym u w, e) refl
  | inr e ↦ rw (same_task-sym u w, e) refl
]
runs-push (x ∷ xs) w u = elim (cases_Bool (same_task u x)) [
  | inl e ↦ rw e (elim (same_task w u) as (λ b. true ≡ cond b true true) [ true ↦ refl | false ↦ refl ])
  | inr e ↦ rw e (runs-push xs w u)
]

-- whoever is struck off the list runs no more
pub runs-drop : (w u : Task) (running : List Task) → runs (filter (λ x. not (same_task x w)) running) u ≡ cond (same_task w u) false (runs running u)
runs-drop w u [] = elim (same_task w u) as (λ b. false ≡ cond b false false) [ true ↦ refl | false ↦ refl ]
runs-drop w u (x ∷ xs) = elim (cases_Bool (same_task x w)) [
  | inl e ↦ rw e (runs-drop w u xs ∙ elim (cases_Bool (same_task w u)) [
    | inl same ↦ rw same refl
    | inr other ↦ rw (other, ap (same_task u) (same_task-true x w e), same_task-sym u w, other) refl
  ])
  | inr e ↦ rw (e, runs-drop w u xs) (elim (cases_Bool (same_task w u)) [
    | inl same ↦ rw (same, ap (λ y. same_task y x) (sym (same_task-true w u same)), same_task-sym w x, e) refl
    | inr other ↦ rw other refl
  ])
]

-- ---- who eats after a call

-- where the call puts one task that doesn't eat into a state in which it doesn't eat either, those who eat are the same
same_eaters : (t : Table) (x u : Task) (s : State) (old new : Option State) → same_state Eating s ≡ false → state_of t x ≡ old → is_found Eating old ≡ false → new ≡ cond (same_task x u) (Some s) (state_of t u) → is_found Eating new ≡ is_in Eating t.order u
same_eaters t x u s old new resting was not_eating is = elim (cases_Bool (same_task x u)) [
  | inl same ↦ ap (is_found Eating) (is ∙ ap (λ b. cond b (Some s) (state_of t u)) same) ∙ resting ∙ sym (ap (is_found Eating) (ap (state_of t) (sym (same_task-true x u same)) ∙ was) ∙ not_eating)
  | inr other ↦ ap (is_found Eating) (is ∙ ap (λ b. cond b (Some s) (state_of t u)) other)
]

-- those who run are those who eat after a join
pub scheduled-join : (t new : Table) (running : List Task) → IsScheduled t running → IsSound new → refusal_of t call.Join ≡ None → new ≡ changed_by t call.Join → IsScheduled new running
scheduled-join t new running before sound ok is = record {
  sound = sound;
  those_who_eat = λ u. before.those_who_eat u ∙ sym (same_eaters t (newcomer t) u Thinking None (state_of new u) refl (newcomer_absent t.order t.clock (newcomer t) refl before.sound.born_before) refl (ap (λ x. state_of x u) is ∙ state-changed t before.sound call.Join ok u));
}

-- and after a conflict
pub scheduled-conflict : (t new : Table) (running : List Task) (a b : Task) → IsScheduled t running → IsSound new → new ≡ changed_by t (call.Conflict a b) → IsScheduled new running
scheduled-conflict t new running a b before sound is = record {
  sound = sound;
  those_who_eat = λ u. before.those_who_eat u ∙ sym (ap (λ (x : Table). is_in Eating x.order u) is);
}

-- and after a task grows hungry
pub scheduled-hungry : (t new : Table) (running : List Task) (x : Task) → IsScheduled t running → IsSound new → refusal_of t (call.Hungry x) ≡ None → new ≡ changed_by t (call.Hungry x) → IsScheduled new running
scheduled-hungry t new running x before sound ok is = record {
  sound = sound;
  those_who_eat = λ u. before.those_who_eat u ∙ sym (same_eaters t x u Hungry (Some Thinking) (state_of new u) refl (found Thinking (state_of t x) ok) refl (ap (λ y. state_of y u) is ∙ state-changed t before.sound (call.Hungry x) ok u));
}

-- a state that depends on a test is Eating where the one that is chosen is
found_cond : (b : Bool) (s : State) (o : Option State) → is_found Eating (cond b (Some s) o) ≡ cond b (same_state Eating s) (is_found Eating o)
found_cond true s o = refl
found_cond false s o = refl

-- and after a begin, whose task comes onto the list
pub scheduled-begin : (t new : Table) (running after : List Task) (x : Task) → IsScheduled t running → IsSound new → refusal_of t (call.Begin x) ≡ None → new ≡ changed_by t (call.Begin x) → after ≡ running ++ x ∷ [] → IsScheduled new after
scheduled-begin t new running after x before sound ok is pushed = record {
  sound = sound;
  those_who_eat = λ u.
      ap (λ ys. runs ys u) pushed ∙ runs-push running x u ∙ ap (cond (same_task x u) true) (before.those_who_eat u)
      ∙ sym (ap (is_found Eating) (ap (λ y. state_of y u) is ∙ state-changed t before.sound (call.Begin x) ok u) ∙ found_cond (same_task x u) Eating (state_of t u));
}

-- and after a finish, whose task is struck off
pub scheduled-finish : (t new : Table) (running after : List Task) (x : Task) → IsScheduled t running → IsSound new → refusal_of t (call.Finish x) ≡ None → new ≡ changed_by t (call.Finish x) → after ≡ filter (λ y. not (same_task y x)) running → IsScheduled new after
scheduled-finish t new running after x before sound ok is dropped = record {
  sound = sound;
  those_who_eat = λ u.
      ap (λ ys. runs ys u) dropped ∙ runs-drop x u running ∙ ap (cond (same_task x u) false) (before.those_who_eat u)
      ∙ sym (ap (is_found Eating) (ap (λ y. state_of y u) is ∙ state-changed t before.sound (call.Finish x) ok u) ∙ found_cond (same_task x u) Thinking (state_of t u));
}

-- ---- what follows for those who run

-- whoever is on the list eats
pub runner_eats : (t : Table) (running : List Task) (u : Task) → IsScheduled t running → runs running u ≡ true → state_of t u ≡ Some Eating
runner_eats t running u kept here = found_is Eating (state_of t u) (sym (kept.those_who_eat u) ∙ here)

-- no two on the list are in conflict
pub runners_apart : (t : Table) (running : List Task) (u v : Task) → IsScheduled t running → runs running u ≡ true → runs running v ≡ true → are_in_conflict t u v ≡ false
runners_apart t running u v kept here there = false_from_ne_true (are_in_conflict t u v) (λ apart. neighbours_rest t kept.sound u v apart (runner_eats t running u kept here) (runner_eats t running v kept there))

-- whoever eats is on the list
pub runs_if_eats : (t : Table) (running : List Task) (u : Task) → IsScheduled t running → state_of t u ≡ Some Eating → runs running u ≡ true
runs_if_eats t running u kept eats = kept.those_who_eat u ∙ ap (is_found Eating) eats

-- ---- a begin leaves fewer hungry tasks

-- how many are hungry
abbrev hungry_among : List Diner → ℕ
hungry_among order = length (filter (λ d. same_state Hungry d.state) order)

-- a list with one more is no shorter
le_one_more : (b : Bool) (d : Diner) (xs ys : List Diner) → length xs ≤ length ys → length xs ≤ length (cond b (d ∷ ys) ys)
le_one_more true d xs ys le = omega (arith, le)
le_one_more false d xs ys le = le

-- of two lists, each with one more or neither, the one stays no longer than the other
le_both : (b : Bool) (d : Diner) (xs ys : List Diner) → length xs ≤ length ys → length (cond b (d ∷ xs) xs) ≤ length (cond b (d ∷ ys) ys)
le_both true d xs ys le = omega (arith, le)
le_both false d xs ys le = le

-- or shorter
lt_both : (b : Bool) (d : Diner) (xs ys : List Diner) → length xs < length ys → length (cond b (d ∷ xs) xs) < length (cond b (d ∷ ys) ys)
lt_both true d xs ys lt = omega (arith, lt)
lt_both false d xs ys lt = lt

-- no more are hungry where a task eats
no_more : (u : Task) (order : List Diner) → hungry_among (with_state Eating u order) ≤ hungry_among order
no_more u [] = omega arith
no_more u (d ∷ ds) = elim (cases_Bool (same_task d.task u)) [
  | inl e ↦ rw e (le_one_more (same_state Hungry d.state) d _ _ (no_more u ds))
  | inr e ↦ rw e (le_both (same_state Hungry d.state) d _ _ (no_more u ds))
]

-- fewer are hungry where a hungry task eats
fewer : (u : Task) (order : List Diner) → state_in order u ≡ Some Hungry → hungry_among (with_state Eating u order) < hungry_among order
fewer u [] h = absurd (let k : None ≡ Some Hungry = h in cc)
fewer u (d ∷ ds) h = elim (cases_Bool (same_task d.task u)) [
  | inl e ↦
      let is : Some d.state ≡ Some Hungry = rw e at h in
      let hungry : same_state Hungry d.state ≡ true = ap (is_found Hungry) is in
      let rest : hungry_among (with_state Eating u ds) ≤ hungry_among ds = no_more u ds in
      rw (e, hungry) (omega (arith, rest))
  | inr e ↦ rw e (lt_both (same_state Hungry d.state) d _ _ (fewer u ds (rw e at h)))
]

-- each start leaves fewer who are hungry
pub fewer_hungry : (t new : Table) (u : Task) → next_ready_of t ≡ Some u → new ≡ changed_by t (call.Begin u) → hungry_in new < hungry_in t
fewer_hungry t new u next is = subst (λ (x : Table). hungry_in x < hungry_in t) (sym is) (fewer u t.order (next_is_hungry t u next))

-- ---- a task is taken off

-- whoever was struck off doesn't run
pub taken_off : (running after : List Task) (w : Task) → after ≡ filter (λ x. not (same_task x w)) running → runs after w ≡ false
taken_off running after w dropped = ap (λ ys. runs ys w) dropped ∙ runs-drop w w running ∙ ap (λ b. cond b false (runs running w)) (same_task-refl w)

-- all others run if they did
pub others_run : (running after : List Task) (w u : Task) → after ≡ filter (λ x. not (same_task x w)) running → u ≢ w → runs after u ≡ runs running u
others_run running after w u dropped other = ap (λ ys. runs ys u) dropped ∙ runs-drop w u running ∙ ap (λ b. cond b false (runs running u)) (differs w u other)
