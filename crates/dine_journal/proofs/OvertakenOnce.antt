-- In a legal history u is overtaken by v once where v begins a meal beside the hungry u, and else never.
use Rattle.std.proofs.Common.{◌≡◌, ℕ, ◌+◌, ◌*◌, ◌≤◌, true, false, ◌&&◌, cond, List, [], ◌∷◌, Option, Some, None, inl, inr, refl, sym, ap, ◌∙◌, arith}
use Rattle.std.proofs.lemmas.Bool.{cases_Bool, and_parts, or_cases, or_parts}
use Rattle.dine_words.specs.declared.task.Task.{Task}
use Rattle.dine_words.specs.declared.task.State.{State}
use Rattle.dine_words.specs.declared.task.State.TheVariants.{Hungry}
use Rattle.dine_words.specs.declared.call.Call.{Call}
use Rattle.dine_words.specs.declared.call.Call.TheVariants as call
use Rattle.dine_words.specs.declared.call.Refusal.{Refusal}
use Rattle.dine_words.specs.declared.entry.Entry.{Entry}
use Rattle.dine_words.specs.declared.limits.Limits.{Limits}
use Rattle.dine_table.specs.Table.{Table, opening_table, is_found, is_in, state_of, are_in_conflict}
use Rattle.dine_table.specs.Calls.{refusal_of, reply_of, table_after_call}
use Rattle.dine_table.specs.History.{IsLegalFrom, IsLegal, meals_ahead, overtaken_from, overtaken, grants_meal, starts_hunger, ends_hunger, is_begin_of, is_hungry_of}
use Rattle.dine_words.specs.Waits.{is_done}
use Rattle.dine_table.specs.Sound.{IsSound}
use Rattle.dine_table.proofs.CallerLemmas.{hungry_after, overtaken-le, same_state-true, sound_after_call, sound_at_opening}
use Rattle.dine_journal.specs.Overtaking.{overtakes_at, some_entry}
use Rattle.dine_journal.proofs.StateChanges.{keeps_hungry, hungry_before}

-- a state that is found to be hungry is
pub hungry_if : (o : Option State) → is_found Hungry o ≡ true → o ≡ Some Hungry
hungry_if None h = absurd (let k : false ≡ true = h in cc)
hungry_if (Some x) h = ap (λ y. Some y) (same_state-true Hungry x h)

-- ---- one entry

-- a begin leaves the conflicts as they are
begin_keeps_conflicts : (t : Table) (v u : Task) (c : Call) → is_begin_of v c ≡ true → (a b : Task) → are_in_conflict (table_after_call t c) a b ≡ are_in_conflict t a b
begin_keeps_conflicts t v u (call.Begin x) h a b = go (refusal_of t (call.Begin x)) refl
  where
    go : (o : Option Refusal) → refusal_of t (call.Begin x) ≡ o → are_in_conflict (table_after_call t (call.Begin x)) a b ≡ are_in_conflict t a b
    go None k = rw k refl
    go (Some r) k = rw k refl
begin_keeps_conflicts t v u c h a b = absurd (let k : false ≡ true = h in cc)

-- a begin is no call for hunger
begin_starts_none : (v u : Task) (c : Call) → is_begin_of v c ≡ true → is_hungry_of u c ≡ false
begin_starts_none v u (call.Hungry x) h = absurd (let k : false ≡ true = h in cc)
begin_starts_none v u c h = refl

-- what it is that v overtakes u at an entry
pub record OvertakenAt (u v : Task) (t : Table) (e : Entry) : Type 0 where
  pub granted : grants_meal v e ≡ true
  pub hungry : state_of (table_after_call t e.call) u ≡ Some Hungry
  pub apart : are_in_conflict (table_after_call t e.call) u v ≡ true

-- where an entry shows that v overtakes u, v begins a meal, u is hungry, and the two are in conflict
pub overtaken_at : (u v : Task) (t : Table) (e : Entry) → overtakes_at u v (table_after_call t e.call) e ≡ true → OvertakenAt u v t e
overtaken_at u v t e h =
    let next = table_after_call t e.call in
    let parts = and_parts (grants_meal v e) (is_in Hungry next.order u && are_in_conflict next u v) h in
    let beside = and_parts (is_in Hungry next.order u) (are_in_conflict next u v) parts.1 in
    record { granted = parts.0; hungry = hungry_if (state_of next u) beside.0; apart = beside.1 }

-- where v begins a meal beside u, who is hungry and in conflict with it, the entry shows it
pub overtakes_if : (u v : Task) (t : Table) (e : Entry) → grants_meal v e ≡ true → state_of (table_after_call t e.call) u ≡ Some Hungry → are_in_conflict (table_after_call t e.call) u v ≡ true → overtakes_at u v (table_after_call t e.call) e ≡ true
overtakes_if u v t e granted hungry apart = rw (granted, hungry, apart) refl

-- u was hungry and stays so
was_hungry : (u v : Task) (t : Table) (e : Entry) → IsSound t → e.reply ≡ reply_of t e.call → OvertakenAt u v t e → (state_of t u ≡ Some Hungry) × (ends_hunger u e ≡ false)
was_hungry u v t e sound said p = elim (hungry_before t sound u e said p.hungry) [
  | inl was ↦ was
  | inr starts ↦ absurd (
      let begins = (and_parts (is_begin_of v e.call) (is_done e.reply) p.granted).0 in
      let grows = (and_parts (is_hungry_of u e.call) (is_done e.reply) starts).0 in
      let k : true ≡ false = sym grows ∙ begin_starts_none v u e.call begins in
      cc)
]

-- ---- a history

-- how often v begins in the hunger of u that goes on, if u is hungry
abbrev pub open_hunger : Table → Task → Task → List Entry → ℕ
open_hunger t u v es = cond (is_in Hungry t.order u) (meals_ahead t u v es) 0

-- u is overtaken from here on at least as often as from the next entry on
overtaken_later : (t : Table) (u v : Task) (e : Entry) (es : List Entry) → overtaken_from (table_after_call t e.call) u v es ≤ overtaken_from t u v (e ∷ es)
overtaken_later t u v e es = elim (cases_Bool (starts_hunger u e)) [
  | inl starts ↦ rw starts (omega arith)
  | inr other ↦ rw other (omega arith)
]

-- what is counted later is counted from here on
go_on : (t : Table) (u v : Task) (e : Entry) (es : List Entry) → IsSound t → e.reply ≡ reply_of t e.call → 1 ≤ open_hunger (table_after_call t e.call) u v es + overtaken_from (table_after_call t e.call) u v es → 1 ≤ open_hunger t u v (e ∷ es) + overtaken_from t u v (e ∷ es)
go_on t u v e es sound said rest =
    let next = table_after_call t e.call in
    let later = overtaken_later t u v e es in
    elim (cases_Bool (is_in Hungry next.order u)) [
      | inl hungry ↦
          let rest' : 1 ≤ meals_ahead next u v es + overtaken_from next u v es = rw hungry at rest in
          elim (hungry_before t sound u e said (hungry_if (state_of next u) hungry)) [
            | inl was ↦
                let more : meals_ahead next u v es ≤ open_hunger t u v (e ∷ es) = rw (was.0, was.1) (omega arith) in
                add_up _ _ _ _ rest' more later
            | inr starts ↦
                let most : meals_ahead next u v es + overtaken_from next u v es ≤ 2 * overtaken_from t u v (e ∷ es) = rw starts (omega arith) in
                twice _ _ _ rest' most
          ]
      | inr not_hungry ↦
          let rest' : 1 ≤ 0 + overtaken_from next u v es = rw not_hungry at rest in
          add_up _ _ _ _ rest' (omega arith) later
    ]
  where
    add_up : (a b c d : ℕ) → 1 ≤ a + b → a ≤ c → b ≤ d → 1 ≤ c + d
    add_up a b c d h k l = omega arith

    twice : (a b c : ℕ) → 1 ≤ a → a ≤ 2 * b → 1 ≤ c + b
    twice a b c h k = omega arith

-- one and more are at least one
counted : (n m : ℕ) → 1 ≤ n → 1 ≤ n + m
counted n m h = omega arith

-- where v overtakes u at an entry, u is overtaken
pub overtakes-overtaken : (t : Table) (u v : Task) (es : List Entry) → IsSound t → IsLegalFrom t es → some_entry (overtakes_at u v) t es ≡ true → 1 ≤ open_hunger t u v es + overtaken_from t u v es
overtakes-overtaken t u v [] sound legal h = absurd (let k : false ≡ true = h in cc)
overtakes-overtaken t u v (e ∷ es) sound legal h =
    let next = table_after_call t e.call in
    elim (or_cases (overtakes_at u v next e) (some_entry (overtakes_at u v) next es) h) [
      | inl here ↦
          let p = overtaken_at u v t e here in
          let was = was_hungry u v t e sound legal.0 p in
          let begins = (and_parts (is_begin_of v e.call) (is_done e.reply) p.granted).0 in
          let apart : are_in_conflict t u v ≡ true = sym (begin_keeps_conflicts t v u e.call begins u v) ∙ p.apart in
          let one : 1 ≤ open_hunger t u v (e ∷ es) = rw (was.0, was.1, p.granted, apart) (omega arith) in
          counted _ _ one
      | inr later ↦
          let rest = overtakes-overtaken next u v es (sound_after_call t e.call sound) legal.1 later in
          go_on t u v e es sound legal.0 rest
    ]

-- ---- where nobody overtakes u

-- where an entry doesn't show that v overtakes the hungry u, and u isn't overtaken later in this hunger, it isn't from here
-- on
none_ahead : (t : Table) (u v : Task) (e : Entry) (es : List Entry) → IsSound t → e.reply ≡ reply_of t e.call → state_of t u ≡ Some Hungry → overtakes_at u v (table_after_call t e.call) e ≡ false → (state_of (table_after_call t e.call) u ≡ Some Hungry → meals_ahead (table_after_call t e.call) u v es ≡ 0) → meals_ahead t u v (e ∷ es) ≡ 0
none_ahead t u v e es sound said hu none later = elim (cases_Bool (ends_hunger u e)) [
  | inl ended ↦ rw ended refl
  | inr other ↦
      let next = table_after_call t e.call in
      let hungry : state_of next u ≡ Some Hungry = keeps_hungry t sound u e said hu other in
      elim (cases_Bool (grants_meal v e && are_in_conflict t u v)) [
        | inl counts ↦
            let parts = and_parts (grants_meal v e) (are_in_conflict t u v) counts in
            let begins = (and_parts (is_begin_of v e.call) (is_done e.reply) parts.0).0 in
            absurd (let k : true ≡ false = sym (overtakes_if u v t e parts.0 hungry (begin_keeps_conflicts t v u e.call begins u v ∙ parts.1)) ∙ none in cc)
        | inr free ↦ rw (other, free, later hungry) refl
      ]
]

-- where v overtakes u at no entry, u isn't overtaken
pub not_overtakes-none : (t : Table) (u v : Task) (es : List Entry) → IsSound t → IsLegalFrom t es → some_entry (overtakes_at u v) t es ≡ false → (state_of t u ≡ Some Hungry → meals_ahead t u v es ≡ 0) × (overtaken_from t u v es ≡ 0)
not_overtakes-none t u v [] sound legal h = (λ hu. refl, refl)
not_overtakes-none t u v (e ∷ es) sound legal h =
    let next = table_after_call t e.call in
    let parts = or_parts (overtakes_at u v next e) (some_entry (overtakes_at u v) next es) h in
    let rest = not_overtakes-none next u v es (sound_after_call t e.call sound) legal.1 parts.1 in (
      λ hu. none_ahead t u v e es sound legal.0 hu parts.0 rest.0,
      elim (cases_Bool (starts_hunger u e)) [
        | inl starts ↦ rw (starts, rest.0 (hungry_after t u e.call e.reply legal.0 starts), rest.1) refl
        | inr other ↦ rw other rest.1
      ],
    )

-- ---- in a legal history

-- how often u is overtaken by v
pub overtaken-is : (limits : Limits) (history : List Entry) (u v : Task) → IsLegal limits history → overtaken limits history u v ≡ cond (some_entry (overtakes_at u v) (opening_table limits) history) 1 0
overtaken-is limits history u v legal = elim (cases_Bool (some_entry (overtakes_at u v) (opening_table limits) history)) [
  | inl some ↦
      let least : 1 ≤ 0 + overtaken limits history u v = overtakes-overtaken (opening_table limits) u v history (sound_at_opening limits) legal some in
      let most : overtaken limits history u v ≤ 1 = overtaken-le limits history u v legal in
      let one : overtaken limits history u v ≡ 1 = omega arith in
      rw some one
  | inr none ↦ rw none (not_overtakes-none (opening_table limits) u v history (sound_at_opening limits) legal none).1
]
