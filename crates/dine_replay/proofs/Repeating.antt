-- Lines whose calls are made again, what is noted of them, and what a visitor is told.
use Rattle.std.proofs.Common.{◌≡◌, ℕ, ◌-◌, ◌^◌, Bool, true, List, ◌∷◌, ◌++◌, Some, None, Ok, Err, refl}
use Rattle.dine_words.specs.declared.call.Call.{Call}
use Rattle.dine_words.specs.declared.call_word.CallOnOne.{CallOnOne}
use Rattle.dine_words.specs.declared.task.Task.{Task}
use Rattle.dine_words.specs.declared.version.JournalVersion.{JournalVersion}
use Rattle.dine_table.specs.Table.{Table}
use Rattle.dine_table.specs.Calls.{reply_of}
use Rattle.dine_words.specs.CallWords.{call_about_one, opening_on_one}
use Rattle.dine_words.specs.Versions.{has_call_on_one}
use Rattle.dine_words.specs.Reading.{asked_at, number_at, task_at}
use Rattle.dine_words.proofs.CallerLemmas.{asked_on_a_pass}
use Rattle.dine_replay.specs.Noting.{Given, Making, MakesCall, MakesOrLeaves, MakesStep, RepeatsInEachVersion, RepeatsNoting, Telling}
use Rattle.dine_replay.proofs.Compared.{answered-repeats}

module _ (old new : Table) (before : Bool) (was is : Telling) where
  -- a call that stands at the front of a line was made again with the reply that the line tells, so the line's entry was
  made-repeat : (text asked rest : List ℕ) (pass : ℕ) (call : Call) (v : JournalVersion) → asked_at v text ≡ Some (pass, call, asked) → (after : Bool) → MakesCall pass call old new before after was is asked rest → RepeatsNoting v old new before after was is text rest
  made-repeat text asked rest pass call v front after made = record {
    entry = record { pass = pass; call = call; reply = reply_of old call };
    again = answered-repeats v text asked pass call front old new (reply_of old call) rest made.told refl made.leaves;
    notes = made.notes;
    tells = made.tells;
  }

  -- what is given for a call tells the same of a line, if the call that is made is the line's
  as-made : {E : Type 0} (Makes Repeats : Making) (asked text : List ℕ) → ((after : Bool) (rest : List ℕ) → Makes old new before after was is asked rest → Repeats old new before after was is text rest) → (o : Given E) → MakesOrLeaves Makes old new before was is asked o → MakesOrLeaves Repeats old new before was is text o
  as-made Makes Repeats asked text same (Err e) made = record { made = tt; left = tt }
  as-made Makes Repeats asked text same (Ok None) made = record { made = tt; left = made.left }
  as-made Makes Repeats asked text same (Ok (Some found)) made = record { made = same found.0 found.1.now made.made; left = tt }

  -- so the entry of a line was, if the call at its front was made again
  pub made-repeats : {E : Type 0} (text asked : List ℕ) (pass : ℕ) (call : Call) → ((v : JournalVersion) → asked_at v text ≡ Some (pass, call, asked)) → (o : Given E) → MakesOrLeaves (MakesCall pass call) old new before was is asked o → MakesOrLeaves RepeatsInEachVersion old new before was is text o
  made-repeats text asked pass call front o made =
      as-made (MakesCall pass call) RepeatsInEachVersion asked text (λ after rest made v. made-repeat text asked rest pass call v (front v) after made) o made

  -- a call about the task whose name a text begins with was made again, if the call was
  pub named-step : {E : Type 0} (pass : ℕ) (step : CallOnOne) (task : Task) (text asked : List ℕ) → task_at text ≡ Some (task, asked) → (o : Given E) → MakesOrLeaves (MakesCall pass (call_about_one step task)) old new before was is asked o → MakesOrLeaves (MakesStep pass step) old new before was is text o
  named-step pass step task text asked named o made =
      as-made (MakesCall pass (call_about_one step task)) (MakesStep pass step) asked text (λ after rest made. record { task = task; asked = asked; named = named; made = made }) o made

  -- the entry of a line was, if the call of the step behind its pass and its word was made again
  pub step-repeats : {E : Type 0} (step : CallOnOne) (pass : ℕ) (text after : List ℕ) → number_at (2 ^ 32 - 1) text ≡ Some (pass, 32 ∷ (opening_on_one step ++ after)) → ((v : JournalVersion) → has_call_on_one v step ≡ true) → (o : Given E) → MakesOrLeaves (MakesStep pass step) old new before was is after o → MakesOrLeaves RepeatsInEachVersion old new before was is text o
  step-repeats step pass text after front has o made =
      as-made (MakesStep pass step) RepeatsInEachVersion after text (λ noted rest made v. made-repeat text made.asked rest pass (call_about_one step made.task) v (asked_on_a_pass v step pass text after made.asked (call_about_one step made.task) front (has v) (rw made.named refl)) noted made.made) o made
