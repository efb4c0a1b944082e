-- What an accepted call leaves of the states.
use Rattle.std.proofs.Common.{◌≡◌, ◌≢◌, Bool, true, false, cond, Option, Some, None, is_none, refl, sym, ap, ◌∙◌, subst}
use Rattle.std.proofs.lemmas.Bool.{and_parts, false_from_ne_true}
use Rattle.dine_words.specs.declared.task.Task.{Task}
use Rattle.dine_words.specs.declared.task.State.{State}
use Rattle.dine_words.specs.declared.task.State.TheVariants.{Thinking, Hungry, Eating}
use Rattle.dine_words.specs.declared.call.Call.{Call}
use Rattle.dine_words.specs.declared.call.Call.TheVariants as call
use Rattle.dine_words.specs.declared.call.Refusal.{Refusal}
use Rattle.dine_table.specs.Table.{Table, same_task, is_found, is_in, state_of, are_in_conflict, next_ready_of}
use Rattle.dine_table.specs.Calls.{changed_by, refusal_of, refusal_unless, table_after_call}
use Rattle.dine_table.specs.Sound.{IsSound}
use Rattle.dine_table.proofs.CallerLemmas.{neighbours_rest, next_ready-ready, same_state-true, same_task-refl, same_task-true, sound_after_call}
use Rattle.dine_journal.proofs.CallerLemmas.{state-changed}

-- an accepted call leaves a sound table sound
pub sound_changed : (t : Table) (c : Call) → IsSound t → refusal_of t c ≡ None → IsSound (changed_by t c)
sound_changed t c sound ok = subst (λ (o : Option Refusal). IsSound (cond (is_none o) (changed_by t c) t)) ok (sound_after_call t c sound)

-- a state that is found to be s is s
pub found_is : (s : State) (o : Option State) → is_found s o ≡ true → o ≡ Some s
found_is s None h = absurd (let k : false ≡ true = h in cc)
found_is s (Some x) h = ap (λ y. Some y) (same_state-true s x h)

-- whoever is named next is hungry
pub next_is_hungry : (t : Table) (u : Task) → next_ready_of t ≡ Some u → state_of t u ≡ Some Hungry
next_is_hungry t u next = found_is Hungry (state_of t u) (and_parts (is_in Hungry t.order u) _ (next_ready-ready t u next)).0

-- tasks that differ are told apart
pub differs : (u v : Task) → v ≢ u → same_task u v ≡ false
differs u v ne = false_from_ne_true (same_task u v) (λ e. ne (sym (same_task-true u v e)))

-- ---- a begin

-- whoever was granted a begin eats
pub begun_eats : (t new : Table) → IsSound t → (u : Task) → refusal_of t (call.Begin u) ≡ None → new ≡ changed_by t (call.Begin u) → state_of new u ≡ Some Eating
begun_eats t new sound u ok is = ap (λ x. state_of x u) is ∙ state-changed t sound (call.Begin u) ok u ∙ ap (λ b. cond b (Some Eating) (state_of t u)) (same_task-refl u)

-- all others keep their states then
pub begun_others : (t new : Table) → IsSound t → (u : Task) → refusal_of t (call.Begin u) ≡ None → new ≡ changed_by t (call.Begin u) → (v : Task) → v ≢ u → state_of new v ≡ state_of t v
begun_others t new sound u ok is v ne = ap (λ x. state_of x v) is ∙ state-changed t sound (call.Begin u) ok v ∙ ap (λ b. cond b (Some Eating) (state_of t v)) (differs u v ne)

-- and nobody in conflict with it eats
pub begun_alone : (t new : Table) → IsSound t → IsSound new → (u : Task) → refusal_of t (call.Begin u) ≡ None → new ≡ changed_by t (call.Begin u) → (v : Task) → are_in_conflict new u v ≡ true → state_of new v ≢ Some Eating
begun_alone t new sound after u ok is v apart = neighbours_rest new after u v apart (begun_eats t new sound u ok is)

-- ---- a finish, and a leave

-- the states after a finish: the task thinks, and all others keep theirs
finished : (t : Table) → IsSound t → (u : Task) → refusal_of t (call.Finish u) ≡ None → (v : Task) → state_of (changed_by t (call.Finish u)) v ≡ cond (same_task u v) (Some Thinking) (state_of t v)
finished t sound u ok v = state-changed t sound (call.Finish u) ok v

-- whoever has finished may leave
may_leave : (t : Table) → IsSound t → (u : Task) → refusal_of t (call.Finish u) ≡ None → refusal_of (changed_by t (call.Finish u)) (call.Leave u) ≡ None
may_leave t sound u ok = ap (refusal_unless Thinking) (finished t sound u ok u ∙ ap (λ b. cond b (Some Thinking) (state_of t u)) (same_task-refl u))

-- of two changes of one value the later one counts
twice : (b : Bool) (x y z : Option State) → cond b x (cond b y z) ≡ cond b x z
twice true x y z = refl
twice false x y z = refl

-- who finished and left is there no more, and all others are as they were
pub left_after_finish : (t mid new : Table) → IsSound t → (u : Task) → refusal_of t (call.Finish u) ≡ None → mid ≡ changed_by t (call.Finish u) → new ≡ table_after_call mid (call.Leave u) → (v : Task) → state_of new v ≡ cond (same_task u v) None (state_of t v)
left_after_finish t mid new sound u ok is then v =
    let after : Table = changed_by t (call.Finish u) in
    let left : table_after_call after (call.Leave u) ≡ changed_by after (call.Leave u) = ap (λ (o : Option Refusal). cond (is_none o) (changed_by after (call.Leave u)) after) (may_leave t sound u ok) in
    ap (λ x. state_of x v) (then ∙ ap (λ x. table_after_call x (call.Leave u)) is ∙ left)
    ∙ state-changed after (sound_changed t (call.Finish u) sound ok) (call.Leave u) (may_leave t sound u ok) v
    ∙ ap (cond (same_task u v) None) (finished t sound u ok v)
    ∙ twice (same_task u v) None (Some Thinking) (state_of t v)

-- whoever has finished and left isn't present
pub left_itself : (t mid new : Table) → IsSound t → (u : Task) → refusal_of t (call.Finish u) ≡ None → mid ≡ changed_by t (call.Finish u) → new ≡ table_after_call mid (call.Leave u) → state_of new u ≡ None
left_itself t mid new sound u ok is then = left_after_finish t mid new sound u ok is then u ∙ ap (λ b. cond b None (state_of t u)) (same_task-refl u)

-- all others keep their states then
pub left_others : (t mid new : Table) → IsSound t → (u : Task) → refusal_of t (call.Finish u) ≡ None → mid ≡ changed_by t (call.Finish u) → new ≡ table_after_call mid (call.Leave u) → (v : Task) → v ≢ u → state_of new v ≡ state_of t v
left_others t mid new sound u ok is then v ne = left_after_finish t mid new sound u ok is then v ∙ ap (λ b. cond b None (state_of t v)) (differs u v ne)
