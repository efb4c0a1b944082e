-- A hungry task is overtaken by a neighbour at most once.
use Rattle.std.proofs.Common.{◌≡◌, ℕ, ◌+◌, ◌≤◌, Bool, true, false, not, ◌&&◌, ◌||◌, cond, List, [], ◌∷◌, ◌++◌, Option, Some, None, is_some, inl, inr, refl, sym, ap, ◌∙◌, subst, arith}
use Rattle.std.specs.List.{list_any}
use Rattle.std.proofs.lemmas.Bool.{cases_Bool, and_parts, and_right}
use Rattle.dine_words.specs.declared.task.Task.{Task}
use Rattle.dine_words.specs.declared.task.State.{State}
use Rattle.dine_words.specs.declared.task.State.TheVariants.{Thinking, Hungry, Eating}
use Rattle.dine_words.specs.declared.task.Diner.{Diner}
use Rattle.dine_words.specs.declared.call.Call.{Call}
use Rattle.dine_words.specs.declared.call.Call.TheVariants as call
use Rattle.dine_words.specs.declared.call.Reply.{Reply}
use Rattle.dine_words.specs.declared.call.Refusal.{Refusal}
use Rattle.dine_words.specs.declared.entry.Entry.{Entry}
use Rattle.dine_words.specs.declared.limits.Limits.{Limits}
use Rattle.dine_table.specs.Table.{Table, opening_table, same_state, same_task, is_in, state_in, state_of, stands_before, are_in_conflict, is_ready, keeps_waiting, neighbours_of}
use Rattle.dine_table.specs.Calls.{refusal_unless, refusal_of, reply_of, acceptance_of, changed_by, table_after_call, newcomer, with_state, without, moved_last}
use Rattle.dine_table.specs.History.{IsLegalFrom, IsLegal, meals_ahead, overtaken_from, overtaken, starts_hunger, ends_hunger, is_begin_of, is_end_of_hunger_of, is_hungry_of}
use Rattle.dine_words.specs.Waits.{is_done}
use Rattle.dine_table.specs.Sound.{IsSound}
use Rattle.dine_table.proofs.Tasks.{same_task-true, same_task-sym}
use Rattle.dine_table.proofs.Order.{state_in-with_state_other, state_in-with_state_same, stands_before-with_state, state_in-without_other, state_in-without_same, stands_before-without, state_in-append_other, stands_before-append, stands_before-last}
use Rattle.dine_table.proofs.Accepted.{absent_differs, asked_if_done, found, newcomer_absent, or_else-None, ready_if}
use Rattle.dine_table.proofs.Neighbours.{neighbour_passes}
use Rattle.dine_table.proofs.Sound.{sound_after_call, sound_at_opening}

-- how often v may still begin before u: not at all while it eats, or where u stands before it
abbrev bound : List Diner → Task → Task → ℕ
bound order u v = cond (is_in Eating order v || stands_before order u v) 0 1

-- the bound is 0 or 1
bound-le : (b : Bool) → cond b 0 1 ≤ 1
bound-le true = omega arith
bound-le false = omega arith

-- u goes on to be hungry, and what was counted is off the bound
abbrev Goes : ℕ → List Diner → List Diner → Task → Task → Type 0
Goes n old new u v = (state_in new u ≡ Some Hungry) × (n + bound new u v ≤ bound old u v)

-- where a hungry task is hungry still, and the other has its state and place still, the bound stays
same_bound : (old new : List Diner) (u v : Task) → state_in new u ≡ Some Hungry → state_in new v ≡ state_in old v → stands_before new u v ≡ stands_before old u v → Goes 0 old new u v
same_bound old new u v hu hv hs = (hu, rw (hv, hs) (omega arith))

-- where a hungry task stands before the other, the other overtakes it no more
no_bound : (old new : List Diner) (u v : Task) → state_in new u ≡ Some Hungry → stands_before new u v ≡ true → Goes 0 old new u v
no_bound old new u v hu hs = (hu, rw hs (elim (is_in Eating new v) as (λ b. 0 + cond (b || true) 0 1 ≤ bound old u v) [ true ↦ omega arith | false ↦ omega arith ]))

-- two states tell two tasks apart
states_differ : (order : List Diner) (a b : Task) (x y : State) → state_in order a ≡ Some x → state_in order b ≡ Some y → (Some x ≡ Some y → ⊥) → same_task a b ≡ false
states_differ order a b x y ha hb ne = elim (cases_Bool (same_task a b)) [
  | inl e ↦ absurd (ne (sym ha ∙ ap (state_in order) (same_task-true a b e) ∙ hb))
  | inr e ↦ e
]

-- before one who is absent stands everybody
stands_before-missing : (order : List Diner) (a b : Task) → is_some (state_in order a) ≡ true → state_in order b ≡ None → stands_before order a b ≡ true
stands_before-missing [] a b h k = absurd (let w : false ≡ true = h in cc)
stands_before-missing (d ∷ ds) a b h k = elim (cases_Bool (same_task d.task b)) [
  | inl e ↦ absurd (let w : Some d.state ≡ None = rw e at k in cc)
  | inr e ↦ rw e (elim (cases_Bool (same_task d.task a)) [
    | inl f ↦ rw f refl
    | inr f ↦ rw f (stands_before-missing ds a b (rw f at h) (rw e at k))
  ])
]

-- ---- one accepted call, while u is hungry and stays so

module _ (t : Table) (u v : Task) (ne : same_task u v ≡ false) (sound : IsSound t) (hu : state_of t u ≡ Some Hungry) where
  some_u : is_some (state_of t u) ≡ true
  some_u = ap is_some hu

  goes_join : Goes 0 t.order (changed_by t call.Join).order u v
  goes_join =
      let d : Diner = record { task = newcomer t; state = Thinking } in
      let absent : state_in t.order d.task ≡ None = newcomer_absent t.order t.clock (newcomer t) refl sound.born_before in
      let not_u : same_task d.task u ≡ false = absent_differs t.order d.task u Hungry absent hu in
      let hu' : state_in (t.order ++ d ∷ []) u ≡ Some Hungry = state_in-append_other t.order d u not_u ∙ hu in
      elim (cases_Bool (same_task d.task v)) [
        | inl e ↦ no_bound t.order (t.order ++ d ∷ []) u v hu' (subst (λ w. stands_before (t.order ++ d ∷ []) u w ≡ true) (same_task-true d.task v e) (stands_before-last t.order d u absent some_u))
        | inr e ↦ same_bound t.order (t.order ++ d ∷ []) u v hu' (state_in-append_other t.order d v e) (stands_before-append t.order d u v not_u e)
      ]

  goes_leave : (w : Task) → refusal_of t (call.Leave w) ≡ None → Goes 0 t.order (changed_by t (call.Leave w)).order u v
  goes_leave w ok =
      let hw = found Thinking (state_of t w) ok in
      let not_u : same_task w u ≡ false = states_differ t.order w u Thinking Hungry hw hu (λ k. cc) in
      let hu' : state_in (without w t.order) u ≡ Some Hungry = state_in-without_other w u t.order not_u ∙ hu in
      elim (cases_Bool (same_task w v)) [
        | inl e ↦ no_bound t.order (without w t.order) u v hu' (subst (λ x. stands_before (without w t.order) u x ≡ true) (same_task-true w v e) (stands_before-missing (without w t.order) u w (ap is_some hu') (state_in-without_same w t.order)))
        | inr e ↦ same_bound t.order (without w t.order) u v hu' (state_in-without_other w v t.order e) (stands_before-without w u v t.order not_u e)
      ]

  -- a task that doesn't eat, before or after, gets another state
  goes_put : (was s : State) (w : Task) → state_of t w ≡ Some was → same_state Eating was ≡ false → same_state Eating s ≡ false → same_task w u ≡ false → Goes 0 t.order (with_state s w t.order) u v
  goes_put was s w hw before after not_u =
      let hu' : state_in (with_state s w t.order) u ≡ Some Hungry = state_in-with_state_other s w u t.order not_u ∙ hu in
      elim (cases_Bool (same_task w v)) [
        | inl e ↦
            let P : Task → Type 0 = λ x. Goes 0 t.order (with_state s w t.order) u x in
            let here : P w = (hu', rw (state_in-with_state_same s w t.order (ap is_some hw), hw, before, after, stands_before-with_state s w u w t.order) (omega arith)) in
            subst P (same_task-true w v e) here
        | inr e ↦ same_bound t.order (with_state s w t.order) u v hu' (state_in-with_state_other s w v t.order e) (stands_before-with_state s w u v t.order)
      ]

  goes_hungry : (w : Task) → refusal_of t (call.Hungry w) ≡ None → Goes 0 t.order (changed_by t (call.Hungry w)).order u v
  goes_hungry w ok =
      let hw = found Thinking (state_of t w) ok in
      goes_put Thinking Hungry w hw refl refl (states_differ t.order w u Thinking Hungry hw hu (λ k. cc))

  goes_finish : (w : Task) → refusal_of t (call.Finish w) ≡ None → Goes 0 t.order (changed_by t (call.Finish w)).order u v
  goes_finish w ok =
      let hw = found Eating (state_of t w) ok in
      let d : Diner = record { task = w; state = Thinking } in
      let not_u : same_task w u ≡ false = states_differ t.order w u Eating Hungry hw hu (λ k. cc) in
      let hu' : state_in (moved_last w t.order) u ≡ Some Hungry = state_in-append_other (without w t.order) d u not_u ∙ state_in-without_other w u t.order not_u ∙ hu in
      elim (cases_Bool (same_task w v)) [
        | inl e ↦ no_bound t.order (moved_last w t.order) u v hu' (subst (λ x. stands_before (moved_last w t.order) u x ≡ true) (same_task-true w v e) (stands_before-last (without w t.order) d u (state_in-without_same w t.order) (ap is_some (state_in-without_other w u t.order not_u ∙ hu))))
        | inr e ↦ same_bound t.order (moved_last w t.order) u v hu' (state_in-append_other (without w t.order) d v e ∙ state_in-without_other w v t.order e) (stands_before-append (without w t.order) d u v not_u e ∙ stands_before-without w u v t.order not_u e)
      ]

  -- v may begin beside a hungry neighbour u only where u doesn't stand before it
  may_pass : is_ready t v ≡ true → are_in_conflict t u v ≡ true → stands_before t.order u v ≡ false
  may_pass ready apart =
      let parts = and_parts (is_in Hungry t.order v) (not (list_any (keeps_waiting t.order v) (neighbours_of t v))) ready in
      let nobody : list_any (keeps_waiting t.order v) (neighbours_of t v) ≡ false = not_true (list_any (keeps_waiting t.order v) (neighbours_of t v)) parts.1 in
      rw hu at (neighbour_passes (keeps_waiting t.order v) u v t.conflicts ne apart nobody)
    where
      not_true : (b : Bool) → not b ≡ true → b ≡ false
      not_true true h = sym h
      not_true false h = refl

  goes_begin : (w : Task) → refusal_of t (call.Begin w) ≡ None → same_task u w ≡ false → Goes (cond (same_task v w && are_in_conflict t u v) 1 0) t.order (changed_by t (call.Begin w)).order u v
  goes_begin w ok not_w =
      let parts = or_else-None (refusal_unless Hungry (state_of t w)) _ ok in
      let hw = found Hungry (state_of t w) parts.0 in
      let ready : is_ready t w ≡ true = ready_if (is_ready t w) parts.1 in
      let not_u : same_task w u ≡ false = same_task-sym w u ∙ not_w in
      let hu' : state_in (with_state Eating w t.order) u ≡ Some Hungry = state_in-with_state_other Eating w u t.order not_u ∙ hu in
      elim (cases_Bool (same_task v w)) [
        | inl e ↦
            let is_w : v ≡ w = same_task-true v w e in
            let eats : state_in (with_state Eating w t.order) v ≡ Some Eating = subst (λ x. state_in (with_state Eating w t.order) x ≡ Some Eating) (sym is_w) (state_in-with_state_same Eating w t.order (ap is_some hw)) in
            let hv : state_of t v ≡ Some Hungry = ap (state_in t.order) is_w ∙ hw in (
              hu',
              rw (e, eats, hv) (elim (cases_Bool (are_in_conflict t u v)) [
                | inl apart ↦ rw (apart, may_pass (ap (is_ready t) is_w ∙ ready) apart) (omega arith)
                | inr free ↦ rw free (omega arith)
              ]),
            )
        | inr e ↦
            let differs : same_task w v ≡ false = same_task-sym w v ∙ e in
            (hu', rw (e, state_in-with_state_other Eating w v t.order differs, stands_before-with_state Eating w u v t.order) (omega arith))
      ]

  goes_withdraw : (w : Task) → refusal_of t (call.Withdraw w) ≡ None → same_task u w ≡ false → Goes 0 t.order (changed_by t (call.Withdraw w)).order u v
  goes_withdraw w ok other =
      goes_put Hungry Thinking w (found Hungry (state_of t w) ok) refl refl (same_task-sym w u ∙ other)

  goes_accepted : (c : Call) → refusal_of t c ≡ None → is_end_of_hunger_of u c ≡ false → Goes (cond (is_begin_of v c && are_in_conflict t u v) 1 0) t.order (changed_by t c).order u v
  goes_accepted call.Join ok other = goes_join
  goes_accepted (call.Leave w) ok other = goes_leave w ok
  goes_accepted (call.Conflict a b) ok other = same_bound t.order t.order u v hu refl refl
  goes_accepted (call.Separate a b) ok other = same_bound t.order t.order u v hu refl refl
  goes_accepted (call.Hungry w) ok other = goes_hungry w ok
  goes_accepted (call.Begin w) ok other = goes_begin w ok other
  goes_accepted (call.Finish w) ok other = goes_finish w ok
  goes_accepted (call.Withdraw w) ok other = goes_withdraw w ok other

-- ---- any call of a legal history

-- whoever stays hungry begins no meal
stays_without_meal : (u : Task) (c : Call) (said : Bool) → (is_end_of_hunger_of u c && said) ≡ false → (is_begin_of u c && said) ≡ false
stays_without_meal u (call.Begin x) said h = h
stays_without_meal u c said h = refl

-- a call that doesn't end a hunger lets it go on, and a meal that the other begins by it is off the bound
goes_call : (t : Table) (u v : Task) (c : Call) (reply : Reply) → same_task u v ≡ false → IsSound t → state_of t u ≡ Some Hungry → reply ≡ reply_of t c → (is_end_of_hunger_of u c && is_done reply) ≡ false
    → Goes (cond ((is_begin_of v c && is_done reply) && are_in_conflict t u v) 1 0) t.order (table_after_call t c).order u v
goes_call t u v c reply ne sound hu said other =
    let P : Reply → Type 0 = λ r. (is_end_of_hunger_of u c && is_done r) ≡ false → Goes (cond ((is_begin_of v c && is_done r) && are_in_conflict t u v) 1 0) t.order (table_after_call t c).order u v in
    subst P (sym said) (go (refusal_of t c) refl) other
  where
    go : (o : Option Refusal) → refusal_of t c ≡ o → (is_end_of_hunger_of u c && is_done (reply_of t c)) ≡ false → Goes (cond ((is_begin_of v c && is_done (reply_of t c)) && are_in_conflict t u v) 1 0) t.order (table_after_call t c).order u v
    go None e h = rw (e, asked_if_done (is_begin_of v) refl t c) (goes_accepted t u v ne sound hu c e (sym (asked_if_done (is_end_of_hunger_of u) refl t c) ∙ (rw e at h)))
    go (Some r) e h = rw (e, and_right (is_begin_of v c) false refl) (same_bound t.order t.order u v hu refl refl)

-- as long as u is hungry, v begins beside it at most once
pub meals_ahead-le : (t : Table) (u v : Task) (es : List Entry) → same_task u v ≡ false → IsSound t → state_of t u ≡ Some Hungry → IsLegalFrom t es → meals_ahead t u v es ≤ bound t.order u v
meals_ahead-le t u v [] ne sound hu legal = omega arith
meals_ahead-le t u v (e ∷ es) ne sound hu legal = elim (cases_Bool (ends_hunger u e)) [
  | inl ended ↦ rw ended (omega arith)
  | inr other ↦
      let step = goes_call t u v e.call e.reply ne sound hu legal.0 other in
      let rest : meals_ahead (table_after_call t e.call) u v es ≤ bound (table_after_call t e.call).order u v = meals_ahead-le (table_after_call t e.call) u v es ne (sound_after_call t e.call sound) step.0 legal.1 in
      rw other (add_up _ _ _ _ step.1 rest)
]
  where
    add_up : (n m a b : ℕ) → n + a ≤ b → m ≤ a → n + m ≤ b
    add_up n m a b h k = omega arith

-- nobody overtakes itself
meals_ahead-itself : (t : Table) (u : Task) (es : List Entry) → meals_ahead t u u es ≡ 0
meals_ahead-itself t u [] = refl
meals_ahead-itself t u (e ∷ es) = elim (cases_Bool (ends_hunger u e)) [
  | inl ended ↦ rw ended refl
  | inr other ↦ rw (other, stays_without_meal u e.call (is_done e.reply) other) (rw (meals_ahead-itself (table_after_call t e.call) u es) refl)
]

-- an accepted hunger leaves u hungry
pub hungry_after : (t : Table) (u : Task) (c : Call) (reply : Reply) → reply ≡ reply_of t c → (is_hungry_of u c && is_done reply) ≡ true → state_of (table_after_call t c) u ≡ Some Hungry
hungry_after t u c reply said h = go (refusal_of t c) refl (subst (λ r. (is_hungry_of u c && is_done r) ≡ true) said h)
  where
    at : (c : Call) → refusal_of t c ≡ None → is_hungry_of u c ≡ true → state_in (changed_by t c).order u ≡ Some Hungry
    at (call.Hungry x) ok k = subst (λ y. state_in (with_state Hungry x t.order) y ≡ Some Hungry) (sym (same_task-true u x k)) (state_in-with_state_same Hungry x t.order (ap is_some (found Thinking (state_of t x) ok)))
    at c ok k = absurd (let w : false ≡ true = k in cc)

    go : (o : Option Refusal) → refusal_of t c ≡ o → (is_hungry_of u c && is_done (reply_of t c)) ≡ true → state_of (table_after_call t c) u ≡ Some Hungry
    go None e k = rw e (at c e (and_parts (is_hungry_of u c) (is_done (acceptance_of t c)) (rw e at k)).0)
    go (Some r) e k = absurd (let w : false ≡ true = sym (and_right (is_hungry_of u c) false refl) ∙ (rw e at k) in cc)

-- from a hungry task's table on a neighbour begins one meal before it at most
ahead_le_one : (t : Table) (u v : Task) (es : List Entry) → IsSound t → state_of t u ≡ Some Hungry → IsLegalFrom t es → meals_ahead t u v es ≤ 1
ahead_le_one t u v es sound hu legal = elim (cases_Bool (same_task u v)) [
  | inl e ↦ let zero_ahead : meals_ahead t u v es ≡ 0 = ap (λ x. meals_ahead t u x es) (sym (same_task-true u v e)) ∙ meals_ahead-itself t u es in omega arith
  | inr e ↦ let a = meals_ahead-le t u v es e sound hu legal in let b = bound-le (is_in Eating t.order v || stands_before t.order u v) in omega (arith, a, b)
]

-- from a sound table on nobody is overtaken twice by one neighbour in one hunger
overtaken_from-le : (t : Table) (u v : Task) (es : List Entry) → IsSound t → IsLegalFrom t es → overtaken_from t u v es ≤ 1
overtaken_from-le t u v [] sound legal = omega arith
overtaken_from-le t u v (e ∷ es) sound legal =
    let next = table_after_call t e.call in
    let sound' = sound_after_call t e.call sound in
    let later : overtaken_from next u v es ≤ 1 = overtaken_from-le next u v es sound' legal.1 in
    elim (cases_Bool (starts_hunger u e)) [
      | inl starts ↦
          let now : meals_ahead next u v es ≤ 1 = ahead_le_one next u v es sound' (hungry_after t u e.call e.reply legal.0 starts) legal.1 in
          rw starts (omega (arith, now, later))
      | inr other ↦ rw other later
    ]

-- in a legal history nobody is overtaken twice by the same neighbour in one hunger
pub overtaken-le : (limits : Limits) (history : List Entry) (u v : Task) → IsLegal limits history → overtaken limits history u v ≤ 1
overtaken-le limits history u v legal = overtaken_from-le (opening_table limits) u v history (sound_at_opening limits) legal
