-- What is known while the calls of a journal are made again, where each entry is given as it was and not read in place.
use Rattle.std.proofs.Common.{◌≡◌, ℕ, ◌+◌, ◌<◌, ◌≤◌, Bool, true, false, List, length, drop, get_or, sym, ap, ◌∙◌}
use Rattle.dine_words.specs.declared.entry.Entry.{Entry}
use Rattle.dine_table.specs.Table.{Table}
use Rattle.dine_table.specs.Calls.{table_after_call}
use Rattle.dine_table.specs.Sound.{IsSound}
use Rattle.dine_journal.specs.Overtaking.{some_entry}
use Rattle.dine_journal.proofs.Replaying.{at_entry, clock_past, past_entry, sound_past}

module _ (test : Table → Entry → Bool) (whole : Bool) (t next : Table) (items : List Entry) (i : ℕ) (e : Entry) (is : e ≡ get_or items i e) (within : i < length items) (follows : next ≡ table_after_call t e.call) (known : some_entry test t (drop i items) ≡ whole) where
  there : next ≡ table_after_call t (get_or items i e).call
  there = follows ∙ ap (λ (x : Entry). table_after_call t x.call) is

  -- the entry doesn't pass the test, so a later one has to
  pub past_given : test next e ≡ false → some_entry test next (drop (i + 1) items) ≡ whole
  past_given fails = past_entry test whole t next items i e within there known (sym (ap (test next) is) ∙ fails)

  -- the entry passes the test
  pub at_given : test next e ≡ true → whole ≡ true
  at_given passes = at_entry test whole t next items i e within there known (sym (ap (test next) is) ∙ passes)

  -- the clock goes on by one at most
  pub clock_given : t.clock ≤ i → next.clock ≤ i + 1
  clock_given few = clock_past test whole t next items i e within there known few

  -- the table stays sound
  pub sound_given : IsSound t → IsSound next
  sound_given sound = sound_past test whole t next items i e within there known sound
