-- The texts of names, calls, replies and entries, as bytes. Numbers are decimal, with no leading zero and no sign.
use Rattle.std.specs.Prelude.{◌≡◌, ℕ, ◌+◌, ◌^◌, ◌<◌, ◌≤◌, true, List, [], ◌∷◌, ◌++◌, codes, decimal, Vec, vec_capacity, vec_len}
use Rattle.std.specs.List.{flat_map}
use Rattle.dine_words.specs.declared.task.Task.{Task}
use Rattle.dine_words.specs.declared.task.State.{State}
use Rattle.dine_words.specs.declared.task.State.TheVariants.{Thinking as thinking, Hungry as hungry, Eating as eating}
use Rattle.dine_words.specs.declared.call.Call.{Call}
use Rattle.dine_words.specs.declared.call.Call.TheVariants.{Join, Leave, Conflict, Separate, Hungry, Begin, Finish, Withdraw}
use Rattle.dine_words.specs.declared.call.Refusal.{Refusal}
use Rattle.dine_words.specs.declared.call.Refusal.TheVariants.{Full, Unknown, Same, Already, Apart, BothEating, NoRoom, WrongState, NotYet}
use Rattle.dine_words.specs.declared.call.Reply.{Reply}
use Rattle.dine_words.specs.declared.call.Reply.TheVariants.{Joined, Done, Refused}
use Rattle.dine_words.specs.declared.entry.Entry.{Entry}
use Rattle.dine_words.specs.declared.limits.Limits.{Limits}
use Rattle.dine_words.specs.declared.version.JournalVersion.{JournalVersion}
use Rattle.dine_words.specs.declared.call_word.CallOnOne.TheVariants as one
use Rattle.dine_words.specs.declared.call_word.CallOnTwo.TheVariants as two
use Rattle.dine_words.specs.CallWords.{join_word, opening_on_one, opening_on_two}
use Rattle.dine_words.specs.Versions.{has_call, opening_of}

-- the slot, a dot, and the clock before the task joined
abbrev pub task_text : Task → List ℕ
task_text u = decimal u.slot ++ codes "." ++ decimal u.born

-- the name of a state
abbrev pub state_text : State → List ℕ
state_text thinking = codes "thinking"
state_text hungry = codes "hungry"
state_text eating = codes "eating"

-- the name of a refusal. A wrong state goes by the state found
abbrev pub refusal_text : Refusal → List ℕ
refusal_text Full = codes "full"
refusal_text Unknown = codes "unknown"
refusal_text Same = codes "same"
refusal_text Already = codes "already"
refusal_text Apart = codes "apart"
refusal_text BothEating = codes "both-eating"
refusal_text NoRoom = codes "no-room"
refusal_text (WrongState found) = state_text found
refusal_text NotYet = codes "not-yet"

-- a reply, as it stands in a journal and in the output of a script
abbrev pub reply_text : Reply → List ℕ
reply_text (Joined u) = codes "joined " ++ task_text u
reply_text Done = codes "done"
reply_text (Refused refusal) = codes "refused " ++ refusal_text refusal

-- a call, as it stands in a journal
abbrev pub call_text : Call → List ℕ
call_text Join = join_word
call_text (Leave u) = opening_on_one one.Leave ++ task_text u
call_text (Conflict u v) = opening_on_two two.Conflict ++ task_text u ++ codes " " ++ task_text v
call_text (Separate u v) = opening_on_two two.Separate ++ task_text u ++ codes " " ++ task_text v
call_text (Hungry u) = opening_on_one one.Hungry ++ task_text u
call_text (Begin u) = opening_on_one one.Begin ++ task_text u
call_text (Finish u) = opening_on_one one.Finish ++ task_text u
call_text (Withdraw u) = opening_on_one one.Withdraw ++ task_text u

-- an entry of a journal, without its line feed
abbrev pub entry_text : Entry → List ℕ
entry_text e = decimal e.pass ++ codes " " ++ call_text e.call ++ codes " -> " ++ reply_text e.reply

-- the first line of a journal of a version, without its line feed, by the limits' two numbers
abbrev pub header_of : JournalVersion → ℕ → ℕ → List ℕ
header_of version tasks conflicts = opening_of version ++ decimal tasks ++ codes " " ++ decimal conflicts

-- the first line of a journal of a version, without its line feed
abbrev pub header_text : JournalVersion → Limits → List ℕ
header_text version limits = header_of version limits.tasks limits.conflicts

-- the lines, each with its line feed
abbrev pub text_of_lines : List (List ℕ) → List ℕ
text_of_lines lines = flat_map (λ line. line ++ 10 ∷ []) lines

-- the text was appended, of so many bytes at most, and nothing was reallocated for it
pub record AppendsUpTo {Z : Type 0} (most : ℕ) (text : List ℕ) (old new : Vec ℕ Z) : Type 0 where
  pub is : new.items ≡ old.items ++ text
  pub len : vec_len new ≤ vec_len old + most
  pub capacity : vec_capacity new ≡ vec_capacity old

-- ---- values whose numbers fit their types

-- the slot and the clock fit
abbrev pub FitsTask : Task → Type 0
FitsTask u = (u.slot < 2 ^ 32) × (u.born < 2 ^ 64)

-- the tasks fit
abbrev pub FitsCall : Call → Type 0
FitsCall Join = Unit {0}
FitsCall (Leave u) = FitsTask u
FitsCall (Conflict u v) = FitsTask u × FitsTask v
FitsCall (Separate u v) = FitsTask u × FitsTask v
FitsCall (Hungry u) = FitsTask u
FitsCall (Begin u) = FitsTask u
FitsCall (Finish u) = FitsTask u
FitsCall (Withdraw u) = FitsTask u

-- the task that joined fits
abbrev pub FitsReply : Reply → Type 0
FitsReply (Joined u) = FitsTask u
FitsReply Done = Unit {0}
FitsReply (Refused refusal) = Unit {0}

-- the pass, the call and the reply fit
abbrev pub FitsEntry : Entry → Type 0
FitsEntry e = (e.pass < 2 ^ 32) × FitsCall e.call × FitsReply e.reply

-- ---- entries of a version

-- the numbers of the entry fit, and its call is the version's
pub record IsEntryOf (version : JournalVersion) (e : Entry) : Type 0 where
  pub fits : FitsEntry e
  pub has : has_call version e.call ≡ true
