-- How texts are read from the front of some bytes: what is found there, and the bytes after it.
use Rattle.std.specs.Prelude.{◌≡◌, ℕ, ◌==◌, ◌+◌, ◌-◌, ◌*◌, ◌^◌, nat_le, nat_lt, Bool, false, not, ◌&&◌, if◌then◌else◌, List, [], ◌∷◌, drop, Option, Some, None, IfSome, codes}
use Rattle.std.specs.Char.{is_ascii_digit}
use Rattle.dine_words.specs.declared.task.Task.{Task}
use Rattle.dine_words.specs.declared.task.State.TheVariants as state
use Rattle.dine_words.specs.declared.call.Call.{Call}
use Rattle.dine_words.specs.declared.call.Call.TheVariants as call
use Rattle.dine_words.specs.declared.call.Refusal.{Refusal}
use Rattle.dine_words.specs.declared.call.Refusal.TheVariants.{Full, Unknown, Same, Already, Apart, BothEating, NoRoom, WrongState, NotYet}
use Rattle.dine_words.specs.declared.call.Reply.{Reply}
use Rattle.dine_words.specs.declared.call.Reply.TheVariants.{Joined, Done, Refused}
use Rattle.dine_words.specs.declared.entry.Entry.{Entry}
use Rattle.dine_words.specs.declared.call_word.CallOnOne.{CallOnOne}
use Rattle.dine_words.specs.declared.call_word.CallOnOne.TheVariants as one
use Rattle.dine_words.specs.declared.call_word.CallOnTwo.{CallOnTwo}
use Rattle.dine_words.specs.declared.call_word.CallOnTwo.TheVariants as two
use Rattle.dine_words.specs.declared.version.JournalVersion.{JournalVersion}
use Rattle.dine_words.specs.declared.version.JournalVersion.TheVariants as version
use Rattle.dine_words.specs.CallWords.{call_about_one, call_about_two, join_word, opening_on_one, opening_on_two}
use Rattle.dine_words.specs.Versions.{has_call_on_one, most_conflicts_of, most_tasks_of, opening_of}

infixl 10 ◌>>=◌
-- what is read next, from what was found
abbrev pub ◌>>=◌ : {A B : Type 0} → Option A → (A → Option B) → Option B
None >>= next = None
(Some x) >>= next = next x

-- what a function returned, seen by view, is what was found
abbrev pub Finds : {X Y : Type 0} → (X → Y) → Option X → Option Y → Type 0
Finds view None found = found ≡ None
Finds view (Some x) found = found ≡ Some (view x)

-- a digit is the first of the bytes
abbrev pub begins_with_digit : List ℕ → Bool
begins_with_digit [] = false
begins_with_digit (b ∷ bs) = is_ascii_digit b

-- what a reader returned for a text: a value whose text this is, and each value that fits and has this text
pub record ReadsBack
    {A : Type 0} (text_of : A → List ℕ) (Fits : A → Type 0) (text : List ℕ) (read : Option A) : Type 0 where
  pub found : IfSome read (λ x. text ≡ text_of x)
  pub only : (x : A) → Fits x → text ≡ text_of x → read ≡ Some x

-- digits are the first of the bytes, and no zero stands before another digit
abbrev pub begins_with_number : List ℕ → Bool
begins_with_number [] = false
begins_with_number (b ∷ bs) = is_ascii_digit b && not (b == 48 && begins_with_digit bs)

-- the number whose digits are those of n and then all that come first, and the bytes after them
abbrev pub digits_after : ℕ → List ℕ → ℕ × List ℕ
digits_after n [] = (n, [])
digits_after n (b ∷ bs) = if is_ascii_digit b then digits_after (10 * n + (b - 48)) bs else (n, b ∷ bs)

-- the number whose digits are those of n and then all that come first, if it has 64 bits
abbrev pub digits_from : ℕ → List ℕ → Option (ℕ × List ℕ)
digits_from n bytes = let found = digits_after n bytes in if nat_lt found.0 (2 ^ 64) then Some found else None

-- a number, if it is at most this
abbrev pub number_at : ℕ → List ℕ → Option (ℕ × List ℕ)
number_at most bytes =
    let found = digits_after 0 bytes in if begins_with_number bytes && nat_le found.0 most then Some found else None

-- n is the number at the front, at most this, and the rest behind it begins with this byte
pub record IsNumberBefore (most end : ℕ) (bytes : List ℕ) (n : ℕ) (rest : List ℕ) : Type 0 where
  pub number : number_at most bytes ≡ Some (n, rest)
  pub ends : rest ≡ end ∷ drop 1 rest

-- a word, after which nothing is found but the rest
abbrev pub word_at : List ℕ → List ℕ → Option (List ℕ)
word_at [] bytes = Some bytes
word_at (w ∷ ws) [] = None
word_at (w ∷ ws) (b ∷ bs) = if w == b then word_at ws bs else None

-- a task
abbrev pub task_at : List ℕ → Option (Task × List ℕ)
task_at bytes = do
  slot ← number_at (2 ^ 32 - 1) bytes
  dot ← word_at (codes ".") slot.1
  born ← number_at (2 ^ 64 - 1) dot
  Some (record { slot = slot.0; born = born.0 }, born.1)

-- two tasks, with a space between
abbrev pub tasks_at : List ℕ → Option (Task × Task × List ℕ)
tasks_at bytes = do
  first ← task_at bytes
  space ← word_at (codes " ") first.1
  second ← task_at space
  Some (first.0, second.0, second.1)

-- what is made of a task
abbrev pub of_task : {A : Type 0} → (Task → A) → List ℕ → Option (A × List ℕ)
of_task make bytes = do
  u ← task_at bytes
  Some (make u.0, u.1)

-- what is made of two tasks
abbrev pub of_tasks : {A : Type 0} → (Task → Task → A) → List ℕ → Option (A × List ℕ)
of_tasks make bytes = do
  u ← tasks_at bytes
  Some (make u.0 u.1, u.2)

-- what comes after a word, if the word was found, and else the other
abbrev pub after_or : {A : Type 0} → Option (List ℕ) → (List ℕ → Option A) → Option A → Option A
after_or None next other = other
after_or (Some rest) next other = next rest

-- this, with the bytes after it
abbrev pub just : {A : Type 0} → A → List ℕ → Option (A × List ℕ)
just x rest = Some (x, rest)

-- the word of a call about one task and a space
abbrev pub one_at : List ℕ → Option (CallOnOne × List ℕ)
one_at bytes =
    after_or (word_at (opening_on_one one.Hungry) bytes) (just one.Hungry)
    (after_or (word_at (opening_on_one one.Begin) bytes) (just one.Begin)
    (after_or (word_at (opening_on_one one.Finish) bytes) (just one.Finish)
    (after_or (word_at (opening_on_one one.Leave) bytes) (just one.Leave)
    (after_or (word_at (opening_on_one one.Withdraw) bytes) (just one.Withdraw)
    None))))

-- the word of a call about two tasks and a space
abbrev pub two_at : List ℕ → Option (CallOnTwo × List ℕ)
two_at bytes =
    after_or (word_at (opening_on_two two.Conflict) bytes) (just two.Conflict)
    (after_or (word_at (opening_on_two two.Separate) bytes) (just two.Separate)
    None)

-- the call about the two tasks that come next, if its word was found, and else what asks a task to join
abbrev pub two_or_join : Option (CallOnTwo × List ℕ) → List ℕ → Option (Call × List ℕ)
two_or_join None bytes = after_or (word_at join_word bytes) (just call.Join) None
two_or_join (Some asked) bytes = of_tasks (call_about_two asked.0) asked.1

-- a call that isn't about one task
abbrev pub other_call_at : List ℕ → Option (Call × List ℕ)
other_call_at bytes = two_or_join (two_at bytes) bytes

-- the call about the task that comes next, if its word was found and the version has it, and else another
abbrev pub one_or_other : JournalVersion → Option (CallOnOne × List ℕ) → List ℕ → Option (Call × List ℕ)
one_or_other version None bytes = other_call_at bytes
one_or_other version (Some asked) bytes =
    if has_call_on_one version asked.0 then of_task (call_about_one asked.0) asked.1 else None

-- a call that an entry of the version can have
abbrev pub call_at : JournalVersion → List ℕ → Option (Call × List ℕ)
call_at version bytes = one_or_other version (one_at bytes) bytes

-- a refusal
abbrev pub refusal_at : List ℕ → Option (Refusal × List ℕ)
refusal_at bytes =
    after_or (word_at (codes "not-yet") bytes) (just NotYet)
    (after_or (word_at (codes "thinking") bytes) (just (WrongState state.Thinking))
    (after_or (word_at (codes "hungry") bytes) (just (WrongState state.Hungry))
    (after_or (word_at (codes "eating") bytes) (just (WrongState state.Eating))
    (after_or (word_at (codes "full") bytes) (just Full)
    (after_or (word_at (codes "unknown") bytes) (just Unknown)
    (after_or (word_at (codes "same") bytes) (just Same)
    (after_or (word_at (codes "already") bytes) (just Already)
    (after_or (word_at (codes "apart") bytes) (just Apart)
    (after_or (word_at (codes "both-eating") bytes) (just BothEating)
    (after_or (word_at (codes "no-room") bytes) (just NoRoom)
    None))))))))))

-- what is made of a refusal
abbrev pub of_refusal : List ℕ → Option (Reply × List ℕ)
of_refusal bytes = do
  refusal ← refusal_at bytes
  Some (Refused refusal.0, refusal.1)

-- a reply other than done
abbrev pub other_reply_at : List ℕ → Option (Reply × List ℕ)
other_reply_at bytes =
    after_or (word_at (codes "refused ") bytes) of_refusal
    (after_or (word_at (codes "joined ") bytes) (of_task Joined)
    None)

-- a reply
abbrev pub reply_at : List ℕ → Option (Reply × List ℕ)
reply_at bytes = after_or (word_at (codes "done") bytes) (just Done) (other_reply_at bytes)

-- the pass and the call of an entry that a journal of the version can have
abbrev pub asked_at : JournalVersion → List ℕ → Option (ℕ × Call × List ℕ)
asked_at version bytes = do
  pass ← number_at (2 ^ 32 - 1) bytes
  space ← word_at (codes " ") pass.1
  call ← call_at version space
  Some (pass.0, call.0, call.1)

-- an arrow, and the reply
abbrev pub answer_at : List ℕ → Option (Reply × List ℕ)
answer_at bytes = do
  arrow ← word_at (codes " -> ") bytes
  reply ← reply_at arrow
  Some reply

-- an entry that a journal of the version can have
abbrev pub entry_at : JournalVersion → List ℕ → Option (Entry × List ℕ)
entry_at version bytes = do
  pass ← number_at (2 ^ 32 - 1) bytes
  space ← word_at (codes " ") pass.1
  call ← call_at version space
  arrow ← word_at (codes " -> ") call.1
  reply ← reply_at arrow
  Some (record { pass = pass.0; call = call.0; reply = reply.0 }, reply.1)

-- the opening of a header
abbrev pub version_at : List ℕ → Option (JournalVersion × List ℕ)
version_at bytes =
    after_or (word_at (opening_of version.Two) bytes) (just version.Two)
    (after_or (word_at (opening_of version.One) bytes) (just version.One)
    None)

-- the version and the two numbers of a header, if they are within the version's ranges
abbrev pub header_at : List ℕ → Option (JournalVersion × ℕ × ℕ × List ℕ)
header_at bytes = do
  opening ← version_at bytes
  tasks ← number_at (most_tasks_of opening.0) opening.1
  space ← word_at (codes " ") tasks.1
  conflicts ← number_at (most_conflicts_of opening.0) space
  if nat_le 1 tasks.0 && nat_le 1 conflicts.0 then Some (opening.0, tasks.0, conflicts.0, conflicts.1) else None

-- what was found, if nothing comes after it
abbrev pub whole : {A : Type 0} → Option (A × List ℕ) → Option A
whole None = None
whole (Some (x, [])) = Some x
whole (Some (x, b ∷ bs)) = None
