-- The state of a task after a call, by its state before.
use Rattle.std.proofs.Common.{◌≡◌, ◌⊎◌, true, false, ◌&&◌, cond, ◌++◌, List, [], ◌∷◌, Option, Some, None, is_some, inl, inr, refl, sym, ap, ◌∙◌, subst}
use Rattle.std.proofs.lemmas.Bool.{cases_Bool, and_right}
use Rattle.dine_words.specs.declared.task.Diner.{Diner}
use Rattle.dine_words.specs.declared.task.Task.{Task}
use Rattle.dine_words.specs.declared.task.State.{State}
use Rattle.dine_words.specs.declared.task.State.TheVariants.{Thinking, Hungry, Eating}
use Rattle.dine_words.specs.declared.call.Call.{Call}
use Rattle.dine_words.specs.declared.call.Call.TheVariants as call
use Rattle.dine_words.specs.declared.call.Refusal.{Refusal}
use Rattle.dine_words.specs.declared.call.Reply.TheVariants.{Joined}
use Rattle.dine_words.specs.declared.entry.Entry.{Entry}
use Rattle.dine_table.specs.Table.{Table, same_task, state_in, state_of}
use Rattle.dine_table.specs.Calls.{newcomer, refusal_of, refusal_unless, reply_of, acceptance_of, changed_by, table_after_call, with_state, without, moved_last}
use Rattle.dine_table.specs.History.{starts_hunger, ends_hunger, is_end_of_hunger_of, is_hungry_of}
use Rattle.dine_words.specs.Waits.{is_done}
use Rattle.dine_table.specs.Sound.{IsSound}
use Rattle.dine_table.proofs.CallerLemmas.{asked_if_done, found, newcomer_absent, or_else-None, same_task-sym, same_task-true, state_in-append_other, state_in-append_same, state_in-with_state_other, state_in-with_state_same, state_in-without_other, state_in-without_same}

-- the task that the call is about is in the state that the call leaves it in, and any other in the one before
abbrev pub state_changed : Table → Call → Task → Option State → Option State
state_changed t call.Join w old = cond (same_task (newcomer t) w) (Some Thinking) old
state_changed t (call.Leave x) w old = cond (same_task x w) None old
state_changed t (call.Conflict a b) w old = old
state_changed t (call.Separate a b) w old = old
state_changed t (call.Hungry x) w old = cond (same_task x w) (Some Hungry) old
state_changed t (call.Begin x) w old = cond (same_task x w) (Some Eating) old
state_changed t (call.Finish x) w old = cond (same_task x w) (Some Thinking) old
state_changed t (call.Withdraw x) w old = cond (same_task x w) (Some Thinking) old

-- where the two are one task the new state is this, and else it is the old one
by_task : (order : List Diner) (x w : Task) (new old : Option State) → (same_task x w ≡ true → state_in order x ≡ new) → (same_task x w ≡ false → state_in order w ≡ old) → state_in order w ≡ cond (same_task x w) new old
by_task order x w new old same other = elim (cases_Bool (same_task x w)) [
  | inl e ↦ rw e (ap (state_in order) (sym (same_task-true x w e)) ∙ same e)
  | inr e ↦ rw e (other e)
]

-- a task that is present gets a state, and all others keep theirs
put : (t : Table) (s : State) (x w : Task) → is_some (state_of t x) ≡ true → state_in (with_state s x t.order) w ≡ cond (same_task x w) (Some s) (state_of t w)
put t s x w here = by_task (with_state s x t.order) x w (Some s) (state_of t w) (λ e. state_in-with_state_same s x t.order here) (λ e. state_in-with_state_other s x w t.order e)

-- the state of a task after an accepted call is the one that the call's kind says
pub state-changed : (t : Table) → IsSound t → (c : Call) → refusal_of t c ≡ None → (w : Task) → state_of (changed_by t c) w ≡ state_changed t c w (state_of t w)
state-changed t sound call.Join ok w =
    let d : Diner = record { task = newcomer t; state = Thinking } in
    by_task (t.order ++ d ∷ []) (newcomer t) w (Some Thinking) (state_of t w)
    (λ e. state_in-append_same t.order d (newcomer_absent t.order t.clock (newcomer t) refl sound.born_before))
    (λ e. state_in-append_other t.order d w e)
state-changed t sound (call.Leave x) ok w = by_task (without x t.order) x w None (state_of t w) (λ e. state_in-without_same x t.order) (λ e. state_in-without_other x w t.order e)
state-changed t sound (call.Conflict a b) ok w = refl
state-changed t sound (call.Separate a b) ok w = refl
state-changed t sound (call.Hungry x) ok w = put t Hungry x w (ap is_some (found Thinking (state_of t x) ok))
state-changed t sound (call.Begin x) ok w = put t Eating x w (ap is_some (found Hungry (state_of t x) (or_else-None (refusal_unless Hungry (state_of t x)) _ ok).0))
state-changed t sound (call.Finish x) ok w =
    let d : Diner = record { task = x; state = Thinking } in
    by_task (moved_last x t.order) x w (Some Thinking) (state_of t w)
    (λ e. state_in-append_same (without x t.order) d (state_in-without_same x t.order))
    (λ e. state_in-append_other (without x t.order) d w e ∙ state_in-without_other x w t.order e)
state-changed t sound (call.Withdraw x) ok w = put t Thinking x w (ap is_some (found Hungry (state_of t x) ok))

-- ---- what an answered call tells

-- a value that changes for one task alone is the new one, of that task, or the old one of another
old_or_new : (x w : Task) (new old s : Option State) → cond (same_task x w) new old ≡ s → ((same_task x w ≡ true) × (new ≡ s)) ⊎ ((same_task x w ≡ false) × (old ≡ s))
old_or_new x w new old s h = elim (cases_Bool (same_task x w)) [
  | inl e ↦ inl (e, rw e at h)
  | inr e ↦ inr (e, rw e at h)
]

module _ (t : Table) (sound : IsSound t) where
  -- ---- of accepted calls

  still : (x u : Task) (new : Option State) (s : State) → state_of t x ≡ Some s → is_some (cond (same_task x u) new (state_of t u)) ≡ true → is_some (state_of t u) ≡ true
  still x u new s hx h = elim (cases_Bool (same_task x u)) [
    | inl e ↦ ap (λ w. is_some (state_of t w)) (sym (same_task-true x u e)) ∙ ap is_some hx
    | inr e ↦ rw e at h
  ]

  stays_hungry : (u : Task) (c : Call) → refusal_of t c ≡ None → state_of t u ≡ Some Hungry → is_end_of_hunger_of u c ≡ false → state_changed t c u (state_of t u) ≡ Some Hungry
  stays_hungry u call.Join ok hu other = elim (cases_Bool (same_task (newcomer t) u)) [
    | inl e ↦ absurd (let absent = newcomer_absent t.order t.clock (newcomer t) refl sound.born_before in let k : Some Hungry ≡ None = sym hu ∙ ap (state_of t) (sym (same_task-true (newcomer t) u e)) ∙ absent in cc)
    | inr e ↦ rw e hu
  ]
  stays_hungry u (call.Leave x) ok hu other = elim (cases_Bool (same_task x u)) [
    | inl e ↦ absurd (let k : Some Hungry ≡ Some Thinking = sym hu ∙ ap (state_of t) (sym (same_task-true x u e)) ∙ found Thinking (state_of t x) ok in cc)
    | inr e ↦ rw e hu
  ]
  stays_hungry u (call.Conflict a b) ok hu other = hu
  stays_hungry u (call.Separate a b) ok hu other = hu
  stays_hungry u (call.Hungry x) ok hu other = elim (cases_Bool (same_task x u)) [
    | inl e ↦ rw e refl
    | inr e ↦ rw e hu
  ]
  stays_hungry u (call.Begin x) ok hu other = rw (same_task-sym x u ∙ other) hu
  stays_hungry u (call.Finish x) ok hu other = elim (cases_Bool (same_task x u)) [
    | inl e ↦ absurd (let k : Some Hungry ≡ Some Eating = sym hu ∙ ap (state_of t) (sym (same_task-true x u e)) ∙ found Eating (state_of t x) ok in cc)
    | inr e ↦ rw e hu
  ]
  stays_hungry u (call.Withdraw x) ok hu other = rw (same_task-sym x u ∙ other) hu

  was_hungry : (u : Task) (c : Call) → refusal_of t c ≡ None → state_changed t c u (state_of t u) ≡ Some Hungry → ((state_of t u ≡ Some Hungry) × (is_end_of_hunger_of u c ≡ false)) ⊎ (is_hungry_of u c ≡ true)
  was_hungry u call.Join ok h = elim (old_or_new (newcomer t) u (Some Thinking) (state_of t u) (Some Hungry) h) [
    | inl e ↦ absurd (let k : Some Thinking ≡ Some Hungry = e.1 in cc)
    | inr e ↦ inl (e.1, refl)
  ]
  was_hungry u (call.Leave x) ok h = elim (old_or_new x u None (state_of t u) (Some Hungry) h) [
    | inl e ↦ absurd (let k : None ≡ Some Hungry = e.1 in cc)
    | inr e ↦ inl (e.1, refl)
  ]
  was_hungry u (call.Conflict a b) ok h = inl (h, refl)
  was_hungry u (call.Separate a b) ok h = inl (h, refl)
  was_hungry u (call.Hungry x) ok h = elim (old_or_new x u (Some Hungry) (state_of t u) (Some Hungry) h) [
    | inl e ↦ inr (same_task-sym u x ∙ e.0)
    | inr e ↦ inl (e.1, refl)
  ]
  was_hungry u (call.Begin x) ok h = elim (old_or_new x u (Some Eating) (state_of t u) (Some Hungry) h) [
    | inl e ↦ absurd (let k : Some Eating ≡ Some Hungry = e.1 in cc)
    | inr e ↦ inl (e.1, same_task-sym u x ∙ e.0)
  ]
  was_hungry u (call.Finish x) ok h = elim (old_or_new x u (Some Thinking) (state_of t u) (Some Hungry) h) [
    | inl e ↦ absurd (let k : Some Thinking ≡ Some Hungry = e.1 in cc)
    | inr e ↦ inl (e.1, refl)
  ]
  was_hungry u (call.Withdraw x) ok h = elim (old_or_new x u (Some Thinking) (state_of t u) (Some Hungry) h) [
    | inl e ↦ absurd (let k : Some Thinking ≡ Some Hungry = e.1 in cc)
    | inr e ↦ inl (e.1, same_task-sym u x ∙ e.0)
  ]

  came : (u : Task) (c : Call) → refusal_of t c ≡ None → is_some (state_changed t c u (state_of t u)) ≡ true → (is_some (state_of t u) ≡ true) ⊎ (acceptance_of t c ≡ Joined u)
  came u call.Join ok h = elim (cases_Bool (same_task (newcomer t) u)) [
    | inl e ↦ inr (ap (λ w. Joined w) (same_task-true (newcomer t) u e))
    | inr e ↦ inl (rw e at h)
  ]
  came u (call.Leave x) ok h = elim (cases_Bool (same_task x u)) [
    | inl e ↦ absurd (let k : false ≡ true = rw e at h in cc)
    | inr e ↦ inl (rw e at h)
  ]
  came u (call.Conflict a b) ok h = inl h
  came u (call.Separate a b) ok h = inl h
  came u (call.Hungry x) ok h = inl (still x u (Some Hungry) Thinking (found Thinking (state_of t x) ok) h)
  came u (call.Begin x) ok h = inl (still x u (Some Eating) Hungry (found Hungry (state_of t x) (or_else-None (refusal_unless Hungry (state_of t x)) _ ok).0) h)
  came u (call.Finish x) ok h = inl (still x u (Some Thinking) Eating (found Eating (state_of t x) ok) h)
  came u (call.Withdraw x) ok h = inl (still x u (Some Thinking) Hungry (found Hungry (state_of t x) ok) h)

  -- ---- of any calls, by their replies

  -- a hungry task whose hunger does not end stays hungry
  pub keeps_hungry : (u : Task) (e : Entry) → e.reply ≡ reply_of t e.call → state_of t u ≡ Some Hungry → ends_hunger u e ≡ false → state_of (table_after_call t e.call) u ≡ Some Hungry
  keeps_hungry u e said hu other = go (refusal_of t e.call) refl (subst (λ r. (is_end_of_hunger_of u e.call && is_done r) ≡ false) said other)
    where
      go : (o : Option Refusal) → refusal_of t e.call ≡ o → (is_end_of_hunger_of u e.call && is_done (reply_of t e.call)) ≡ false → state_of (table_after_call t e.call) u ≡ Some Hungry
      go None k h = rw k (state-changed t sound e.call k u ∙ stays_hungry u e.call k hu (sym (asked_if_done (is_end_of_hunger_of u) refl t e.call) ∙ (rw k at h)))
      go (Some r) k h = rw k hu

  -- whoever is hungry after an entry was hungry before it, or its hunger starts there
  pub hungry_before : (u : Task) (e : Entry) → e.reply ≡ reply_of t e.call → state_of (table_after_call t e.call) u ≡ Some Hungry → ((state_of t u ≡ Some Hungry) × (ends_hunger u e ≡ false)) ⊎ (starts_hunger u e ≡ true)
  hungry_before u e said =
      subst (λ r. state_of (table_after_call t e.call) u ≡ Some Hungry → ((state_of t u ≡ Some Hungry) × ((is_end_of_hunger_of u e.call && is_done r) ≡ false)) ⊎ ((is_hungry_of u e.call && is_done r) ≡ true)) (sym said) (go (refusal_of t e.call) refl)
    where
      go : (o : Option Refusal) → refusal_of t e.call ≡ o → state_of (table_after_call t e.call) u ≡ Some Hungry → ((state_of t u ≡ Some Hungry) × ((is_end_of_hunger_of u e.call && is_done (reply_of t e.call)) ≡ false)) ⊎ ((is_hungry_of u e.call && is_done (reply_of t e.call)) ≡ true)
      go None k h = elim (was_hungry u e.call k (sym (state-changed t sound e.call k u) ∙ (rw k at h))) [
        | inl was ↦ inl (was.0, rw k (asked_if_done (is_end_of_hunger_of u) refl t e.call ∙ was.1))
        | inr starts ↦ inr (rw k (asked_if_done (is_hungry_of u) refl t e.call ∙ starts))
      ]
      go (Some r) k h = inl (rw k at h, rw k (and_right (is_end_of_hunger_of u e.call) false refl))

  -- whoever is present after an entry was present before it, or joined there
  pub present_before : (u : Task) (e : Entry) → e.reply ≡ reply_of t e.call → is_some (state_of (table_after_call t e.call) u) ≡ true → (is_some (state_of t u) ≡ true) ⊎ (e.reply ≡ Joined u)
  present_before u e said = subst (λ r. is_some (state_of (table_after_call t e.call) u) ≡ true → (is_some (state_of t u) ≡ true) ⊎ (r ≡ Joined u)) (sym said) (go (refusal_of t e.call) refl)
    where
      go : (o : Option Refusal) → refusal_of t e.call ≡ o → is_some (state_of (table_after_call t e.call) u) ≡ true → (is_some (state_of t u) ≡ true) ⊎ (reply_of t e.call ≡ Joined u)
      go None k h = elim (came u e.call k (ap is_some (sym (state-changed t sound e.call k u)) ∙ (rw k at h))) [
        | inl was ↦ inl was
        | inr joined ↦ inr (rw k joined)
      ]
      go (Some r) k h = inl (rw k at h)
