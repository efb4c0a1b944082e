-- Whom a call may change: of the neighbours of its task those of one kind alone.
use Rattle.std.proofs.Common.{◌≡◌, Bool, true, false, not, ◌||◌, cond, List, [], ◌∷◌, Option, Some, None, is_some, inl, inr, refl, sym, ap, ◌∙◌}
use Rattle.std.specs.List.{list_any}
use Rattle.std.proofs.lemmas.List.Folds.{list_any-append}
use Rattle.std.proofs.lemmas.Bool.{cases_Bool, or_parts, or_from, false_from_ne_true}
use Rattle.dine_words.specs.declared.task.Diner.{Diner}
use Rattle.dine_words.specs.declared.task.Task.{Task}
use Rattle.dine_words.specs.declared.task.State.{State}
use Rattle.dine_words.specs.declared.task.State.TheVariants.{Thinking, Hungry, Eating}
use Rattle.dine_words.specs.declared.call.Call.TheVariants as call
use Rattle.dine_words.specs.declared.call.Refusal.TheVariants.{NotYet}
use Rattle.dine_table.specs.Table.{Table, same_task, state_in, state_of, neighbours_of, stands_before, keeps_waiting, is_ready}
use Rattle.dine_table.specs.Calls.{refusal_of, refusal_unless, changed_by, with_state, without, moved_last}
use Rattle.dine_table.specs.Sound.{IsSound}
use Rattle.dine_table.proofs.CallerLemmas.{found, or_else-None, ready_if, same_task-sym, same_task-true, stands_before-append, stands_before-other_way, stands_before-with_state, stands_before-without, state_in-append_other, state_in-append_same, state_in-with_state_other, state_in-with_state_same, state_in-without_other, state_in-without_same}
use Rattle.dine_bars.specs.declared.bar.BarKind.{BarKind}
use Rattle.dine_bars.specs.declared.bar.BarKind.TheVariants.{Meal, KeptWaiting, MayBegin}
use Rattle.dine_bars.specs.Bars.{kind_at, kind_in}
use Rattle.dine_bars.proofs.Unchanged.{each_other, keeps_same, unchanged_accepted}

-- a test that no item passes, where each item that passes another passes it
none_more : (p q : Task → Bool) (xs : List Task) → ((v : Task) → p v ≡ true → q v ≡ true) → list_any q xs ≡ false → list_any p xs ≡ false
none_more p q [] more none = refl
none_more p q (x ∷ xs) more none =
    let parts = or_parts (q x) (list_any q xs) none in
    or_from (p x) (list_any p xs) (false_from_ne_true (p x) (λ h. (let clash : true ≡ false = sym (more x h) ∙ parts.0 in cc))) (none_more p q xs more parts.1)

-- ---- one task, whose state stays

module _ (t next : Table) (w : Task) where
  -- somebody keeps it waiting in a table
  abbrev waits : Table → Bool
  waits x = list_any (keeps_waiting x.order w) (neighbours_of x w)

  -- what is drawn of a hungry task
  pub kind_hungry : (x : Table) → state_of x w ≡ Some Hungry → kind_at x w ≡ Some (cond (waits x) KeptWaiting MayBegin)
  kind_hungry x h = rw h (go (waits x))
    where
      go : (b : Bool) → Some (cond (not b) MayBegin KeptWaiting) ≡ Some (cond b KeptWaiting MayBegin)
      go true = refl
      go false = refl

  module _ (states : state_of next w ≡ state_of t w) where
    -- whoever isn't hungry is drawn as before
    not_hungry : (o : Option State) → state_of t w ≡ o → (o ≡ Some Hungry → ⊥) → kind_at next w ≡ kind_at t w
    not_hungry None e unlike = rw (states, e) refl
    not_hungry (Some Thinking) e unlike = rw (states, e) refl
    not_hungry (Some Hungry) e unlike = absurd (unlike refl)
    not_hungry (Some Eating) e unlike = rw (states, e) refl

    -- where nobody keeps it waiting who didn't, it is drawn as before, but if it was kept waiting
    pub calm_if_fewer : (list_any (keeps_waiting t.order w) (neighbours_of t w) ≡ false → list_any (keeps_waiting next.order w) (neighbours_of next w) ≡ false) → (kind_at t w ≡ Some KeptWaiting → ⊥) → kind_at next w ≡ kind_at t w
    calm_if_fewer fewer free = go (state_of t w) refl
      where
        hungry : state_of t w ≡ Some Hungry → kind_at next w ≡ kind_at t w
        hungry e = elim (cases_Bool (waits t)) [
          | inl waited ↦ absurd (free (kind_hungry t e ∙ ap (λ b. Some (cond b KeptWaiting MayBegin)) waited))
          | inr free_before ↦ kind_hungry next (states ∙ e) ∙ ap (λ b. Some (cond b KeptWaiting MayBegin)) (fewer free_before ∙ sym free_before) ∙ sym (kind_hungry t e)
        ]

        go : (o : Option State) → state_of t w ≡ o → kind_at next w ≡ kind_at t w
        go None e = not_hungry None e (λ h. (let k : None ≡ Some Hungry = h in cc))
        go (Some Thinking) e = not_hungry (Some Thinking) e (λ h. (let k : Some Thinking ≡ Some Hungry = h in cc))
        go (Some Hungry) e = hungry e
        go (Some Eating) e = not_hungry (Some Eating) e (λ h. (let k : Some Eating ≡ Some Hungry = h in cc))

    -- where everybody who kept it waiting does so still, it is drawn as before, but if it might begin
    pub calm_if_more : (list_any (keeps_waiting next.order w) (neighbours_of next w) ≡ false → list_any (keeps_waiting t.order w) (neighbours_of t w) ≡ false) → (kind_at t w ≡ Some MayBegin → ⊥) → kind_at next w ≡ kind_at t w
    calm_if_more more waited = go (state_of t w) refl
      where
        hungry : state_of t w ≡ Some Hungry → kind_at next w ≡ kind_at t w
        hungry e = elim (cases_Bool (waits next)) [
          | inl waits_now ↦ elim (cases_Bool (waits t)) [
            | inl before ↦ kind_hungry next (states ∙ e) ∙ ap (λ b. Some (cond b KeptWaiting MayBegin)) (waits_now ∙ sym before) ∙ sym (kind_hungry t e)
            | inr free ↦ absurd (waited (kind_hungry t e ∙ ap (λ b. Some (cond b KeptWaiting MayBegin)) free))
          ]
          | inr free_now ↦ absurd (waited (kind_hungry t e ∙ ap (λ b. Some (cond b KeptWaiting MayBegin)) (more free_now)))
        ]

        go : (o : Option State) → state_of t w ≡ o → kind_at next w ≡ kind_at t w
        go None e = not_hungry None e (λ h. (let k : None ≡ Some Hungry = h in cc))
        go (Some Thinking) e = not_hungry (Some Thinking) e (λ h. (let k : Some Thinking ≡ Some Hungry = h in cc))
        go (Some Hungry) e = hungry e
        go (Some Eating) e = not_hungry (Some Eating) e (λ h. (let k : Some Eating ≡ Some Hungry = h in cc))

-- whose hunger is drawn is hungry
pub hungry_if : (t : Table) (w : Task) (k : BarKind) → (k ≡ Meal → ⊥) → kind_at t w ≡ Some k → state_of t w ≡ Some Hungry
hungry_if t w k no_meal h = go (state_of t w) refl
  where
    go : (o : Option State) → state_of t w ≡ o → state_of t w ≡ Some Hungry
    go None e = absurd (let none : None ≡ Some k = sym (ap (kind_in (is_ready t w)) e) ∙ h in cc)
    go (Some Thinking) e = absurd (let none : None ≡ Some k = sym (ap (kind_in (is_ready t w)) e) ∙ h in cc)
    go (Some Hungry) e = e
    go (Some Eating) e = absurd (no_meal (let meal : Some Meal ≡ Some k = sym (ap (kind_in (is_ready t w)) e) ∙ h in cc))

-- of whom it is drawn that it may begin, nobody keeps it waiting
free_if : (b : Bool) → Some (cond b KeptWaiting MayBegin) ≡ Some MayBegin → b ≡ false
free_if true h = absurd (let k : Some KeptWaiting ≡ Some MayBegin = h in cc)
free_if false h = refl

-- what isn't is false
not-true : (b : Bool) → not b ≡ true → b ≡ false
not-true true h = absurd (let k : false ≡ true = h in cc)
not-true false h = refl

-- where no item of a list passes, none of its items does
none_at : (p : Task → Bool) (xs : List Task) (v : Task) → list_any p xs ≡ false → list_any (same_task v) xs ≡ true → p v ≡ false
none_at p [] v none there = absurd (let k : false ≡ true = there in cc)
none_at p (x ∷ xs) v none there =
    let parts = or_parts (p x) (list_any p xs) none in
    elim (cases_Bool (same_task v x)) [
      | inl same ↦ ap p (same_task-true v x same) ∙ parts.0
      | inr apart ↦ none_at p xs v parts.1 (rw apart at there)
    ]

-- whoever thinks keeps nobody waiting
idle : (order : List Diner) (w v : Task) → state_in order v ≡ Some Thinking → keeps_waiting order w v ≡ false
idle order w v h = rw h refl

-- ---- each call, for another task than its own

module _ (t : Table) (x w : Task) (other : same_task x w ≡ false) where
  -- who grows hungry keeps more tasks waiting, and no fewer
  pub calm_hungry : state_of t x ≡ Some Thinking → (kind_at t w ≡ Some MayBegin → ⊥) → kind_at (changed_by t (call.Hungry x)) w ≡ kind_at t w
  calm_hungry here = calm_if_more t (changed_by t (call.Hungry x)) w (state_in-with_state_other Hungry x w t.order other)
      (none_more (keeps_waiting t.order w) (keeps_waiting (with_state Hungry x t.order) w) (neighbours_of t w) still)
    where
      still : (v : Task) → keeps_waiting t.order w v ≡ true → keeps_waiting (with_state Hungry x t.order) w v ≡ true
      still v keeps = elim (cases_Bool (same_task x v)) [
        | inl same ↦ absurd (let none : keeps_waiting t.order w v ≡ false = idle t.order w v (ap (state_of t) (sym (same_task-true x v same)) ∙ here) in let clash : true ≡ false = sym keeps ∙ none in cc)
        | inr apart ↦ keeps_same t (with_state Hungry x t.order) x (λ y k. state_in-with_state_other Hungry x y t.order k) (λ a b ka kb. stands_before-with_state Hungry x a b t.order) w v other apart ∙ keeps
      ]

  -- who withdraws keeps nobody waiting any more
  pub calm_withdraw : state_of t x ≡ Some Hungry → (kind_at t w ≡ Some KeptWaiting → ⊥) → kind_at (changed_by t (call.Withdraw x)) w ≡ kind_at t w
  calm_withdraw here = calm_if_fewer t (changed_by t (call.Withdraw x)) w (state_in-with_state_other Thinking x w t.order other)
      (none_more (keeps_waiting (with_state Thinking x t.order) w) (keeps_waiting t.order w) (neighbours_of t w) still)
    where
      still : (v : Task) → keeps_waiting (with_state Thinking x t.order) w v ≡ true → keeps_waiting t.order w v ≡ true
      still v keeps = elim (cases_Bool (same_task x v)) [
        | inl same ↦ absurd (let none : keeps_waiting (with_state Thinking x t.order) w v ≡ false = idle (with_state Thinking x t.order) w v (ap (state_in (with_state Thinking x t.order)) (sym (same_task-true x v same)) ∙ state_in-with_state_same Thinking x t.order (ap is_some here)) in let clash : true ≡ false = sym keeps ∙ none in cc)
        | inr apart ↦ sym (keeps_same t (with_state Thinking x t.order) x (λ y k. state_in-with_state_other Thinking x y t.order k) (λ a b ka kb. stands_before-with_state Thinking x a b t.order) w v other apart) ∙ keeps
      ]

  -- nor does whoever finished
  pub calm_finish : (kind_at t w ≡ Some KeptWaiting → ⊥) → kind_at (changed_by t (call.Finish x)) w ≡ kind_at t w
  calm_finish = calm_if_fewer t (changed_by t (call.Finish x)) w (states w other)
      (none_more (keeps_waiting (moved_last x t.order) w) (keeps_waiting t.order w) (neighbours_of t w) still)
    where
      states : (v : Task) → same_task x v ≡ false → state_in (moved_last x t.order) v ≡ state_in t.order v
      states v k = state_in-append_other (without x t.order) (record { task = x; state = Thinking }) v k ∙ state_in-without_other x v t.order k

      still : (v : Task) → keeps_waiting (moved_last x t.order) w v ≡ true → keeps_waiting t.order w v ≡ true
      still v keeps = elim (cases_Bool (same_task x v)) [
        | inl same ↦ absurd (let none : keeps_waiting (moved_last x t.order) w v ≡ false = idle (moved_last x t.order) w v (ap (state_in (moved_last x t.order)) (sym (same_task-true x v same)) ∙ state_in-append_same (without x t.order) (record { task = x; state = Thinking }) (state_in-without_same x t.order)) in let clash : true ≡ false = sym keeps ∙ none in cc)
        | inr apart ↦ sym (keeps_same t (moved_last x t.order) x states (λ a b ka kb. (stands_before-append (without x t.order) (record { task = x; state = Thinking }) a b ka kb ∙ stands_before-without x a b t.order ka kb)) w v other apart) ∙ keeps
      ]

  -- whoever begins kept its neighbours waiting before, and does so still
  pub calm_begin : IsSound t → refusal_of t (call.Begin x) ≡ None → kind_at (changed_by t (call.Begin x)) w ≡ kind_at t w
  calm_begin sound ok = elim (cases_Bool (list_any (same_task w) (neighbours_of t x))) [
    | inl near ↦ calm_if_more t (changed_by t (call.Begin x)) w (state_in-with_state_other Eating x w t.order other)
        (none_more (keeps_waiting t.order w) (keeps_waiting (with_state Eating x t.order) w) (neighbours_of t w) still) (waited near)
    | inr far ↦ unchanged_accepted t sound (call.Begin x) ok w (rw here (list_any-append (same_task w) (neighbours_of t x) (x ∷ []) ∙ or_from (list_any (same_task w) (neighbours_of t x)) (same_task w x || false) far (or_from (same_task w x) false (same_task-sym w x ∙ other) refl)))
  ]
    where
      tests : (refusal_unless Hungry (state_of t x) ≡ None) × (cond (is_ready t x) None (Some NotYet) ≡ None)
      tests = or_else-None (refusal_unless Hungry (state_of t x)) _ ok

      here : state_of t x ≡ Some Hungry
      here = found Hungry (state_of t x) tests.0

      -- nobody keeps it waiting
      free : list_any (keeps_waiting t.order x) (neighbours_of t x) ≡ false
      free = not-true _ (rw here at (ready_if (is_ready t x) tests.1))

      still : (v : Task) → keeps_waiting t.order w v ≡ true → keeps_waiting (with_state Eating x t.order) w v ≡ true
      still v keeps = elim (cases_Bool (same_task x v)) [
        | inl same ↦
            let eats : state_in (with_state Eating x t.order) v ≡ Some Eating = ap (state_in (with_state Eating x t.order)) (sym (same_task-true x v same)) ∙ state_in-with_state_same Eating x t.order (ap is_some here) in
            rw eats refl
        | inr apart ↦ keeps_same t (with_state Eating x t.order) x (λ y k. state_in-with_state_other Eating x y t.order k) (λ a b ka kb. stands_before-with_state Eating x a b t.order) w v other apart ∙ keeps
      ]

      -- of two neighbours that are hungry one stands before the other
      waited : list_any (same_task w) (neighbours_of t x) ≡ true → kind_at t w ≡ Some MayBegin → ⊥
      waited near ready =
          let hungry : state_of t w ≡ Some Hungry = hungry_if t w MayBegin (λ e. (let k : MayBegin ≡ Meal = e in cc)) ready in
          let w_free : list_any (keeps_waiting t.order w) (neighbours_of t w) ≡ false = free_if (list_any (keeps_waiting t.order w) (neighbours_of t w)) (sym (kind_hungry t (changed_by t (call.Begin x)) w t hungry) ∙ ready) in
          let not_x : keeps_waiting t.order w x ≡ false = none_at (keeps_waiting t.order w) (neighbours_of t w) x w_free (each_other t x w near) in
          let not_w : keeps_waiting t.order x w ≡ false = none_at (keeps_waiting t.order x) (neighbours_of t x) w free near in
          let x_first : stands_before t.order x w ≡ false = rw here at not_x in
          let w_first : stands_before t.order w x ≡ false = rw hungry at not_w in
          let turned = stands_before-other_way t.order x w other (ap is_some here) (ap is_some hungry) in
          let clash : false ≡ true = sym w_first ∙ turned ∙ ap not x_first in
          cc
