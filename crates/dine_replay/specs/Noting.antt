-- What the replay of a line does, notes of overtaking, and tells a visitor.
use Rattle.std.specs.Borrow.{Bor}
use Rattle.std.specs.Prelude.{◌≡◌, ℕ, Bool, ◌||◌, List, [], ◌∷◌, ◌++◌, Option, Some, Result, IfNone, IfOk, IfSome}
use Rattle.dine_words.specs.declared.call.Call.{Call}
use Rattle.dine_words.specs.declared.call_word.CallOnOne.{CallOnOne}
use Rattle.dine_words.specs.declared.entry.Entry.{Entry}
use Rattle.dine_words.specs.declared.task.Task.{Task}
use Rattle.dine_words.specs.declared.version.JournalVersion.{JournalVersion}
use Rattle.dine_table.specs.Table.{Table}
use Rattle.dine_words.specs.CallWords.{call_about_one}
use Rattle.dine_table.specs.Calls.{reply_of, table_after_call}
use Rattle.dine_words.specs.Reading.{answer_at, task_at}
use Rattle.dine_replay.specs.Audit.{Repeats}
use Rattle.dine_journal.specs.Overtaking.{begins_beside_hungry, overtakes_somebody}

-- what is known of the entries that a visitor was told
abbrev pub Telling : Type 1
Telling = List Entry → Type 0

-- the visitor was told these entries more
abbrev pub TellsAll : Telling → Telling → List Entry → Type 0
TellsAll was is more = (before : List Entry) → was before → is (before ++ more)

-- no call was made, and the visitor was told nothing
pub record LeavesAll (old new : Table) (was is : Telling) : Type 0 where
  pub table : new ≡ old
  pub untold : (before : List Entry) → was before → is before

-- what a call may do that is made again: to the table, to the note of an overtaking and to what the visitor was told, each
-- before and after, and by the text that is left of a text
abbrev pub Making : Type 1
Making = Table → Table → Bool → Bool → Telling → Telling → List ℕ → List ℕ → Type 0

-- a call is made again on the old table for a pass, and gets the reply that a line tells after it, before the rest. It is noted
-- whether somebody was overtaken, before or at this call, and the visitor is told the entry
pub record MakesCall
    (pass : ℕ) (asked : Call) (old new : Table) (before after : Bool) (was is : Telling) (text rest : List ℕ) : Type 0 where
  pub told : answer_at text ≡ Some (reply_of old asked, 10 ∷ rest)
  pub leaves : new ≡ table_after_call old asked
  pub notes : after ≡ (before || begins_beside_hungry new asked (reply_of old asked))
  pub tells : TellsAll was is (record { pass = pass; call = asked; reply = reply_of old asked } ∷ [])

-- a call about one task, whose name a text begins with, is made again as what follows the name tells
pub record MakesStep
    (pass : ℕ) (step : CallOnOne) (old new : Table) (before after : Bool) (was is : Telling) (text rest : List ℕ) : Type 0 where
  pub task : Task
  pub asked : List ℕ
  pub named : task_at text ≡ Some (task, asked)
  pub made : MakesCall pass (call_about_one step task) old new before after was is asked rest

-- the call of some entry of the version, whose line is at the front of the text, before the rest, is made again and gets the
-- reply of the entry. It is noted whether somebody was overtaken, before or at this entry, and the visitor is told it
pub record RepeatsNoting
    (version : JournalVersion) (old new : Table) (before after : Bool) (was is : Telling) (text rest : List ℕ) : Type 0 where
  pub entry : Entry
  pub again : Repeats version old new text entry rest
  pub notes : after ≡ (before || overtakes_somebody new entry)
  pub tells : TellsAll was is (entry ∷ [])

-- whatever the version, the call of some entry of it is made again so
abbrev pub RepeatsInEachVersion : Making
RepeatsInEachVersion old new before after was is text rest =
    (version : JournalVersion) → RepeatsNoting version old new before after was is text rest

-- what a call that is made within the loop may give: whether somebody was overtaken, and the text after the line
abbrev pub Given : Type 0 → Type 0
Given E = Result (Option (Bool × Bor (List ℕ))) E

-- where something was given, a call was made so, with that note and that rest of the text; where nothing was given, no call
-- was made, and the visitor was told nothing. Of an error nothing is said
pub record MakesOrLeaves
    {E : Type 0} (Makes : Making) (old new : Table) (before : Bool) (was is : Telling) (text : List ℕ) (given : Given E) : Type 0 where
  pub made : IfOk given (λ made. IfSome made (λ found. Makes old new before found.0 was is text found.1.now))
  pub left : IfOk given (λ made. IfNone made (LeavesAll old new was is))
