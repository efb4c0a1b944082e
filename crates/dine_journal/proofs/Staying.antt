-- In a legal history a task is present exactly where it joined and did not leave since.
use Rattle.std.proofs.Common.{◌≡◌, ◌⊎◌, true, false, ◌&&◌, cond, List, [], ◌∷◌, ◌++◌, Option, Some, None, is_some, inl, inr, refl, sym, ap, ◌∙◌, subst}
use Rattle.std.specs.List.{AllByRecursion}
use Rattle.std.proofs.lemmas.Bool.{cases_Bool}
use Rattle.dine_words.specs.declared.task.Task.{Task}
use Rattle.dine_words.specs.declared.task.State.{State}
use Rattle.dine_words.specs.declared.task.State.TheVariants.{Thinking, Hungry, Eating}
use Rattle.dine_words.specs.declared.call.Call.{Call}
use Rattle.dine_words.specs.declared.call.Call.TheVariants as call
use Rattle.dine_words.specs.declared.call.Refusal.{Refusal}
use Rattle.dine_words.specs.declared.call.Reply.{Reply}
use Rattle.dine_words.specs.declared.call.Reply.TheVariants.{Joined, Done, Refused}
use Rattle.dine_words.specs.declared.entry.Entry.{Entry}
use Rattle.dine_words.specs.declared.limits.Limits.{Limits}
use Rattle.dine_table.specs.Table.{Table, opening_table, same_task, state_of}
use Rattle.dine_table.specs.Calls.{newcomer, refusal_of, refusal_unless, reply_of, acceptance_of, table_after_call}
use Rattle.dine_table.specs.History.{IsLegal, IsLegalFrom, table_after, table_from}
use Rattle.dine_words.specs.Waits.{is_done}
use Rattle.dine_table.specs.Sound.{IsSound}
use Rattle.dine_table.proofs.CallerLemmas.{found, or_else-None, same_task-refl, same_task-sym, same_task-true, sound_after_call, sound_at_opening}
use Rattle.dine_journal.specs.Told.{HasStayed, is_leave_of, leaves, told_by_done, told_by_reply}
use Rattle.dine_journal.proofs.Telling.{told_or, call_tells, entry_tells}

-- ---- who is present has joined, or was present before

-- whoever has a state after that of x changed was present, where x was
here_of_changed : (t : Table) (x u : Task) (s : State) (new : Option State) → state_of t x ≡ Some s → is_some (cond (same_task x u) new (state_of t u)) ≡ true → is_some (state_of t u) ≡ true
here_of_changed t x u s new present h = elim (cases_Bool (same_task x u)) [
  | inl e ↦ ap (λ w. is_some (state_of t w)) (sym (same_task-true x u e)) ∙ ap is_some present
  | inr e ↦ rw e at h
]

-- whoever is present after an accepted call joined by it, or was present and did not leave by it
accepted_here : (t : Table) (c : Call) (u : Task) → refusal_of t c ≡ None → is_some (told_or u (state_of t u) (told_by_reply c (acceptance_of t c))) ≡ true
    → (acceptance_of t c ≡ Joined u) ⊎ ((is_some (state_of t u) ≡ true) × ((is_leave_of u c && is_done (acceptance_of t c)) ≡ false))
accepted_here t call.Join u ok h = elim (cases_Bool (same_task (newcomer t) u)) [
  | inl e ↦ inl (ap Joined (same_task-true (newcomer t) u e))
  | inr e ↦ inr (rw e at h, refl)
]
accepted_here t (call.Leave x) u ok h = elim (cases_Bool (same_task x u)) [
  | inl e ↦ absurd (let k : false ≡ true = rw e at h in cc)
  | inr e ↦ inr (rw e at h, rw (same_task-sym u x ∙ e) refl)
]
accepted_here t (call.Conflict a b) u ok h = inr (h, refl)
accepted_here t (call.Separate a b) u ok h = inr (h, refl)
accepted_here t (call.Hungry x) u ok h = inr (here_of_changed t x u Thinking (Some Hungry) (found Thinking (state_of t x) ok) h, refl)
accepted_here t (call.Begin x) u ok h = inr (here_of_changed t x u Hungry (Some Eating) (found Hungry (state_of t x) (or_else-None (refusal_unless Hungry (state_of t x)) _ ok).0) h, refl)
accepted_here t (call.Finish x) u ok h = inr (here_of_changed t x u Eating (Some Thinking) (found Eating (state_of t x) ok) h, refl)
accepted_here t (call.Withdraw x) u ok h = inr (here_of_changed t x u Hungry (Some Thinking) (found Hungry (state_of t x) ok) h, refl)

-- nothing is both true and false
false_after : (b : _) → (b && false) ≡ false
false_after true = refl
false_after false = refl

-- the same of any call
call_here : (t : Table) → IsSound t → (c : Call) (u : Task) → is_some (state_of (table_after_call t c) u) ≡ true
    → (reply_of t c ≡ Joined u) ⊎ ((is_some (state_of t u) ≡ true) × ((is_leave_of u c && is_done (reply_of t c)) ≡ false))
call_here t sound c u h = go (refusal_of t c) refl (ap is_some (sym (call_tells t sound c u)) ∙ h)
  where
    go : (o : Option Refusal) → refusal_of t c ≡ o → is_some (told_or u (state_of t u) (told_by_reply c (reply_of t c))) ≡ true
        → (reply_of t c ≡ Joined u) ⊎ ((is_some (state_of t u) ≡ true) × ((is_leave_of u c && is_done (reply_of t c)) ≡ false))
    go None e k = rw e (accepted_here t c u e (rw e at k))
    go (Some r) e k = rw e (inr (rw e at k, false_after (is_leave_of u c)))

-- whoever is present after some entries joined in them and stayed, or was present before and did not leave in them
stayed_from : (t : Table) → IsSound t → (history : List Entry) → IsLegalFrom t history → (u : Task) → is_some (state_of (table_from t history) u) ≡ true
    → HasStayed u history ⊎ ((is_some (state_of t u) ≡ true) × AllByRecursion (λ e. leaves u e ≡ false) history)
stayed_from t sound [] legal u h = inr (h, tt)
stayed_from t sound (e ∷ es) legal u h = elim (stayed_from (table_after_call t e.call) (sound_after_call t e.call sound) es legal.1 u h) [
  | inl later ↦ inl (record { before = e ∷ later.before; joining = later.joining; after = later.after; splits = ap (λ l. e ∷ l) later.splits; joined = later.joined; stayed = later.stayed })
  | inr here ↦ elim (call_here t sound e.call u here.0) [
    | inl joins ↦ inl (record { before = []; joining = e; after = es; splits = refl; joined = legal.0 ∙ joins; stayed = here.1 })
    | inr was ↦ inr (was.0, (ap (λ r. is_leave_of u e.call && is_done r) legal.0 ∙ was.1, here.1))
  ]
]

-- ---- who has joined stays present until it leaves

-- whoever is present and does not leave by a call is present after what its reply tells
stays_told : (u : Task) (old : Option State) (c : Call) (r : Reply) → is_some old ≡ true → (is_leave_of u c && is_done r) ≡ false → is_some (told_or u old (told_by_reply c r)) ≡ true
stays_told u old c (Joined w) here stays = some_if (same_task w u) Thinking old here
  where
    some_if : (b : _) (s : State) (old : Option State) → is_some old ≡ true → is_some (cond b (Some s) old) ≡ true
    some_if true s old h = refl
    some_if false s old h = h
stays_told u old (c) (Refused r) here stays = here
stays_told u old c Done here stays = done c stays
  where
    some_if : (b : _) (s : State) → is_some (cond b (Some s) old) ≡ true
    some_if true s = refl
    some_if false s = here

    done : (c : Call) → (is_leave_of u c && true) ≡ false → is_some (told_or u old (told_by_done c)) ≡ true
    done call.Join k = here
    done (call.Leave x) k = elim (cases_Bool (same_task x u)) [
      | inl e ↦ absurd (let no : true ≡ false = rw (same_task-sym u x ∙ e) at k in cc)
      | inr e ↦ rw e here
    ]
    done (call.Conflict a b) k = here
    done (call.Separate a b) k = here
    done (call.Hungry x) k = some_if (same_task x u) Hungry
    done (call.Begin x) k = some_if (same_task x u) Eating
    done (call.Finish x) k = some_if (same_task x u) Thinking
    done (call.Withdraw x) k = some_if (same_task x u) Thinking

-- whoever is present, and leaves by none of the entries, is present after them
here_from : (t : Table) → IsSound t → (history : List Entry) → IsLegalFrom t history → (u : Task) → is_some (state_of t u) ≡ true → AllByRecursion (λ e. leaves u e ≡ false) history → is_some (state_of (table_from t history) u) ≡ true
here_from t sound [] legal u here stays = here
here_from t sound (e ∷ es) legal u here stays =
    here_from (table_after_call t e.call) (sound_after_call t e.call sound) es legal.1 u (ap is_some (entry_tells t sound e legal.0 u) ∙ stays_told u (state_of t u) e.call e.reply here stays.0) stays.1

-- whoever joins is present
joined_here : (t : Table) → IsSound t → (e : Entry) → e.reply ≡ reply_of t e.call → (u : Task) → e.reply ≡ Joined u → is_some (state_of (table_after_call t e.call) u) ≡ true
joined_here t sound e says u joins =
    let same = same_task-refl u in
    ap is_some (entry_tells t sound e says u) ∙ (ap (λ r. is_some (told_or u (state_of t u) (told_by_reply e.call r))) joins ∙ rw same refl)

-- whoever joins and does not leave afterwards is present in the end
split_here : (t : Table) → IsSound t → (before : List Entry) (e : Entry) (after : List Entry) → IsLegalFrom t (before ++ e ∷ after) → (u : Task) → e.reply ≡ Joined u → AllByRecursion (λ f. leaves u f ≡ false) after → is_some (state_of (table_from t (before ++ e ∷ after)) u) ≡ true
split_here t sound [] e after legal u joins stays = here_from (table_after_call t e.call) (sound_after_call t e.call sound) after legal.1 u (joined_here t sound e legal.0 u joins) stays
split_here t sound (b ∷ bs) e after legal u joins stays = split_here (table_after_call t b.call) (sound_after_call t b.call sound) bs e after legal.1 u joins stays

-- whoever is present has joined and stayed
pub stayed_if_present : (limits : Limits) (history : List Entry) (u : Task) → IsLegal limits history → is_some (state_of (table_after limits history) u) ≡ true → HasStayed u history
stayed_if_present limits history u legal h = elim (stayed_from (opening_table limits) (sound_at_opening limits) history legal u h) [
  | inl stayed ↦ stayed
  | inr never ↦ absurd (let k : false ≡ true = never.0 in cc)
]

-- and whoever has joined and stayed is present
pub present_if_stayed : (limits : Limits) (history : List Entry) (u : Task) → IsLegal limits history → HasStayed u history → is_some (state_of (table_after limits history) u) ≡ true
present_if_stayed limits history u legal stayed =
    ap (λ h. is_some (state_of (table_after limits h) u)) stayed.splits ∙ split_here (opening_table limits) (sound_at_opening limits) stayed.before stayed.joining stayed.after (subst (IsLegal limits) stayed.splits legal) u stayed.joined stayed.stayed
