-- What is known while the calls of a journal are made again.
use Rattle.std.proofs.Common.{◌≡◌, ℕ, ◌+◌, ◌<◌, ◌≤◌, Bool, true, false, ◌||◌, List, length, drop, get_or, Option, Some, None, is_none, is_some, refl, sym, ap, ◌∙◌, subst, add-one, arith}
use Rattle.std.proofs.Math.Seq.{drop-cons}
use Rattle.std.proofs.lemmas.Bool.{false_from_ne_true}
use Rattle.std.proofs.lemmas.List.{drop_all}
use Rattle.dine_words.specs.declared.task.Task.{Task}
use Rattle.dine_words.specs.declared.task.State.{State}
use Rattle.dine_words.specs.declared.call.Call.TheVariants as call
use Rattle.dine_words.specs.declared.call.Reply.TheVariants.{Done}
use Rattle.dine_words.specs.declared.entry.Entry.{Entry}
use Rattle.dine_table.specs.Table.{Table, same_task, state_of, are_in_conflict}
use Rattle.dine_table.specs.Calls.{reply_of, table_after_call}
use Rattle.dine_table.specs.Sound.{IsSound}
use Rattle.dine_table.proofs.CallerLemmas.{clock-after_call-ge, conflict_differs, conflict_present, same_task-true, sound_after_call}
use Rattle.dine_journal.specs.Overtaking.{some_entry}

-- ---- along the entries

module _ (test : Table → Entry → Bool) (whole : Bool) (t next : Table) (items : List Entry) (i : ℕ) (d : Entry) (within : i < length items) (follows : next ≡ table_after_call t (get_or items i d).call) (known : some_entry test t (drop i items) ≡ whole) where
  one_more : (test next (get_or items i d) || some_entry test next (drop (i + 1) items)) ≡ whole
  one_more =
      ap (λ n. test n (get_or items i d) || some_entry test n (drop (i + 1) items)) follows
      ∙ ap (λ l. test (table_after_call t (get_or items i d).call) (get_or items i d) || some_entry test (table_after_call t (get_or items i d).call) l) (ap (λ n. drop n items) (add-one i))
      ∙ ap (some_entry test t) (sym (drop-cons items i d within))
      ∙ known

  -- the entry doesn't pass the test, so a later one has to
  pub past_entry : test next (get_or items i d) ≡ false → some_entry test next (drop (i + 1) items) ≡ whole
  past_entry fails = ap (λ b. b || some_entry test next (drop (i + 1) items)) (sym fails) ∙ one_more

  -- the entry passes the test
  pub at_entry : test next (get_or items i d) ≡ true → whole ≡ true
  at_entry passes = sym one_more ∙ ap (λ b. b || some_entry test next (drop (i + 1) items)) passes

  -- the clock goes on by one at most
  pub clock_past : t.clock ≤ i → next.clock ≤ i + 1
  clock_past few = let more = clock-after_call-ge t (get_or items i d).call in rw follows (omega (arith, more))

  -- the table stays sound
  pub sound_past : IsSound t → IsSound next
  sound_past sound = subst IsSound (sym follows) (sound_after_call t (get_or items i d).call sound)

-- no entry is left
pub past_all : (test : Table → Entry → Bool) (whole : Bool) (t : Table) (items : List Entry) (i : ℕ) → length items ≤ i → some_entry test t (drop i items) ≡ whole → whole ≡ false
past_all test whole t items i past known = sym known ∙ ap (some_entry test t) (drop_all i items past)

-- ---- two tasks can be separated where they are in conflict

-- where two are in conflict a separation would be granted
pub conflict-separated : (t : Table) → IsSound t → (u v : Task) → are_in_conflict t u v ≡ true → reply_of t (call.Separate u v) ≡ Done
conflict-separated t sound u v apart =
    let present = conflict_present t sound u v apart in
    let differ : same_task u v ≡ false = false_from_ne_true (same_task u v) (λ e. conflict_differs t sound u v apart (same_task-true u v e)) in
    rw (some (state_of t u) present.0, some (state_of t v) present.1, differ, apart) refl
  where
    some : (o : Option State) → is_some o ≡ true → is_none o ≡ false
    some None k = absurd (let w : false ≡ true = k in cc)
    some (Some x) k = refl
