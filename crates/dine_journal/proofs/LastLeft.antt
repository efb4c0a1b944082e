-- In a legal history whoever is present is in the state that its last accepted Hungry, Begin, Finish or Withdraw left.
use Rattle.std.proofs.Common.{◌≡◌, Bool, true, false, cond, List, [], ◌∷◌, Option, Some, None, is_some, inl, inr, refl, sym, ap, ◌∙◌}
use Rattle.std.proofs.lemmas.Bool.{cases_Bool}
use Rattle.dine_words.specs.declared.task.Task.{Task}
use Rattle.dine_words.specs.declared.task.State.{State}
use Rattle.dine_words.specs.declared.task.State.TheVariants.{Thinking, Hungry, Eating}
use Rattle.dine_words.specs.declared.call.Call.{Call}
use Rattle.dine_words.specs.declared.call.Call.TheVariants as call
use Rattle.dine_words.specs.declared.call.Refusal.{Refusal}
use Rattle.dine_words.specs.declared.call.Reply.{Reply}
use Rattle.dine_words.specs.declared.entry.Entry.{Entry}
use Rattle.dine_words.specs.declared.limits.Limits.{Limits}
use Rattle.dine_table.specs.Table.{Table, opening_table, same_task, state_of}
use Rattle.dine_table.specs.Calls.{newcomer, refusal_of, reply_of, acceptance_of, table_after_call}
use Rattle.dine_table.specs.History.{IsLegal, IsLegalFrom, table_after, table_from}
use Rattle.dine_words.specs.Waits.{is_done}
use Rattle.dine_table.specs.Sound.{IsSound}
use Rattle.dine_table.proofs.CallerLemmas.{found, newcomer_absent, same_task-true, sound_after_call, sound_at_opening}
use Rattle.dine_journal.specs.Told.{HasStayed, last_left, last_left_from, left_by, left_by_call, left_or, told_by_reply}
use Rattle.dine_journal.proofs.Staying.{present_if_stayed}
use Rattle.dine_journal.proofs.Telling.{call_tells, told_or}

-- the state, and thinking of a task that is absent
abbrev thinking_or : Option State → State
thinking_or None = Thinking
thinking_or (Some s) = s

-- what a reply says of the task that a call leaves in a state
abbrev left_by_reply : Call → Reply → Option (Task × State)
left_by_reply c r = cond (is_done r) (left_by_call c) None

-- a task that was given a state has it, and another keeps its own
given : (b : Bool) (s : State) (o : Option State) → thinking_or (cond b (Some s) o) ≡ cond b s (thinking_or o)
given true s o = refl
given false s o = refl

-- where the task was thinking or absent, and is so again, nothing was left
as_before : (t : Table) (x u : Task) (o : Option State) → thinking_or o ≡ Thinking → thinking_or (state_of t x) ≡ Thinking → thinking_or (cond (same_task x u) o (state_of t u)) ≡ thinking_or (state_of t u)
as_before t x u o now before = elim (cases_Bool (same_task x u)) [
  | inl e ↦ rw e (now ∙ sym (ap (λ w. thinking_or (state_of t w)) (sym (same_task-true x u e)) ∙ before))
  | inr e ↦ rw e refl
]

-- an accepted call leaves each task as the definition says
accepted_leaves : (t : Table) → IsSound t → (c : Call) (u : Task) → refusal_of t c ≡ None → thinking_or (told_or u (state_of t u) (told_by_reply c (acceptance_of t c))) ≡ left_or u (thinking_or (state_of t u)) (left_by_reply c (acceptance_of t c))
accepted_leaves t sound call.Join u ok = as_before t (newcomer t) u (Some Thinking) refl (ap thinking_or (newcomer_absent t.order t.clock (newcomer t) refl sound.born_before))
accepted_leaves t sound (call.Leave x) u ok = as_before t x u None refl (ap thinking_or (found Thinking (state_of t x) ok))
accepted_leaves t sound (call.Conflict a b) u ok = refl
accepted_leaves t sound (call.Separate a b) u ok = refl
accepted_leaves t sound (call.Hungry x) u ok = given (same_task x u) Hungry (state_of t u)
accepted_leaves t sound (call.Begin x) u ok = given (same_task x u) Eating (state_of t u)
accepted_leaves t sound (call.Finish x) u ok = given (same_task x u) Thinking (state_of t u)
accepted_leaves t sound (call.Withdraw x) u ok = given (same_task x u) Thinking (state_of t u)

-- and so does a call, whatever its reply
call_leaves : (t : Table) → IsSound t → (c : Call) (u : Task) → thinking_or (told_or u (state_of t u) (told_by_reply c (reply_of t c))) ≡ left_or u (thinking_or (state_of t u)) (left_by_reply c (reply_of t c))
call_leaves t sound c u = go (refusal_of t c) refl
  where
    go : (o : Option Refusal) → refusal_of t c ≡ o → thinking_or (told_or u (state_of t u) (told_by_reply c (reply_of t c))) ≡ left_or u (thinking_or (state_of t u)) (left_by_reply c (reply_of t c))
    go None e = rw e (accepted_leaves t sound c u e)
    go (Some r) e = rw e refl

-- one entry
entry_leaves : (t : Table) → IsSound t → (e : Entry) → e.reply ≡ reply_of t e.call → (u : Task) → thinking_or (state_of (table_after_call t e.call) u) ≡ left_or u (thinking_or (state_of t u)) (left_by e)
entry_leaves t sound e says u =
    ap thinking_or (call_tells t sound e.call u) ∙ (call_leaves t sound e.call u ∙ ap (λ r. left_or u (thinking_or (state_of t u)) (left_by_reply e.call r)) (sym says))

-- entries one after the other
leave_from : (t : Table) → IsSound t → (history : List Entry) → IsLegalFrom t history → (u : Task) → thinking_or (state_of (table_from t history) u) ≡ last_left_from u (thinking_or (state_of t u)) history
leave_from t sound [] legal u = refl
leave_from t sound (e ∷ es) legal u =
    leave_from (table_after_call t e.call) (sound_after_call t e.call sound) es legal.1 u ∙ ap (λ s. last_left_from u s es) (entry_leaves t sound e legal.0 u)

-- the state of whoever is present
state_here : (o : Option State) (s : State) → is_some o ≡ true → thinking_or o ≡ s → o ≡ Some s
state_here None s here is = absurd (let k : false ≡ true = here in cc)
state_here (Some x) s here is = ap Some is

-- the state of whoever stayed is what was left last
pub state_is_last_left : (limits : Limits) (history : List Entry) (u : Task) → IsLegal limits history → HasStayed u history → state_of (table_after limits history) u ≡ Some (last_left u history)
state_is_last_left limits history u legal stayed =
    state_here (state_of (table_after limits history) u) (last_left u history) (present_if_stayed limits history u legal stayed) (leave_from (opening_table limits) (sound_at_opening limits) history legal u)
