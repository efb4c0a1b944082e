-- What the reply to a call tells of a task is what the call changes of it.
use Rattle.std.proofs.Common.{◌≡◌, cond, Option, Some, None, refl, sym, ap, ◌∙◌}
use Rattle.dine_words.specs.declared.task.Task.{Task}
use Rattle.dine_words.specs.declared.task.State.{State}
use Rattle.dine_words.specs.declared.call.Call.{Call}
use Rattle.dine_words.specs.declared.call.Call.TheVariants as call
use Rattle.dine_words.specs.declared.call.Refusal.{Refusal}
use Rattle.dine_words.specs.declared.entry.Entry.{Entry}
use Rattle.dine_table.specs.Table.{Table, same_task, state_of}
use Rattle.dine_table.specs.Calls.{refusal_of, reply_of, acceptance_of, table_after_call}
use Rattle.dine_table.specs.Sound.{IsSound}
use Rattle.dine_journal.specs.declared.board.Change.{Change}
use Rattle.dine_journal.specs.Told.{told_by, told_by_reply}
use Rattle.dine_journal.proofs.StateChanges.{state_changed, state-changed}

-- the state of u after what was told, by its state before
abbrev pub told_or : Task → Option State → Option Change → Option State
told_or u old None = old
told_or u old (Some told) = cond (same_task told.task u) told.state old

-- the same of a call that was accepted
accepted_tells : (t : Table) (c : Call) (w : Task) (old : Option State) → told_or w old (told_by_reply c (acceptance_of t c)) ≡ state_changed t c w old
accepted_tells t call.Join w old = refl
accepted_tells t c w old = refl

-- the state of w after a call is what the reply tells of it, or else its state before
pub call_tells : (t : Table) → IsSound t → (c : Call) (w : Task) → state_of (table_after_call t c) w ≡ told_or w (state_of t w) (told_by_reply c (reply_of t c))
call_tells t sound c w = go (refusal_of t c) refl
  where
    go : (o : Option Refusal) → refusal_of t c ≡ o → state_of (table_after_call t c) w ≡ told_or w (state_of t w) (told_by_reply c (reply_of t c))
    go None e = rw e (state-changed t sound c e w ∙ sym (accepted_tells t c w (state_of t w)))
    go (Some r) e = rw e refl

-- the same of an entry that has the table's reply
pub entry_tells : (t : Table) → IsSound t → (e : Entry) → e.reply ≡ reply_of t e.call → (w : Task) → state_of (table_after_call t e.call) w ≡ told_or w (state_of t w) (told_by e)
entry_tells t sound e says w = call_tells t sound e.call w ∙ ap (λ r. told_or w (state_of t w) (told_by_reply e.call r)) (sym says)
