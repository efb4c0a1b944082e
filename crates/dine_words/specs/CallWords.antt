-- The words of calls: the text of each, what a word asks for, and the call about the tasks that are named after it.
use Rattle.std.specs.Prelude.{ℕ, if◌then◌else◌, List, [], ◌∷◌, ◌++◌, codes, Option, Some, None}
use Rattle.std.specs.Str.{bytes_eq}
use Rattle.dine_words.specs.declared.task.Task.{Task}
use Rattle.dine_words.specs.declared.call.Call.{Call}
use Rattle.dine_words.specs.declared.call.Call.TheVariants as call
use Rattle.dine_words.specs.declared.call_word.CallOnOne.{CallOnOne}
use Rattle.dine_words.specs.declared.call_word.CallOnOne.TheVariants as one
use Rattle.dine_words.specs.declared.call_word.CallOnTwo.{CallOnTwo}
use Rattle.dine_words.specs.declared.call_word.CallOnTwo.TheVariants as two

-- ---- the words, and the space before the task or the tasks

-- the word by which a task joins
abbrev pub join_word : List ℕ
join_word = codes "join"

-- the word that asks for a call about one task
abbrev pub word_on_one : CallOnOne → List ℕ
word_on_one one.Leave = codes "leave"
word_on_one one.Hungry = codes "hungry"
word_on_one one.Begin = codes "begin"
word_on_one one.Finish = codes "finish"
word_on_one one.Withdraw = codes "withdraw"

-- the word, and the space before the task
abbrev pub opening_on_one : CallOnOne → List ℕ
opening_on_one asked = word_on_one asked ++ 32 ∷ []

-- the word that asks for a call about two tasks
abbrev pub word_on_two : CallOnTwo → List ℕ
word_on_two two.Conflict = codes "conflict"
word_on_two two.Separate = codes "separate"

-- the word, and the space before the first task
abbrev pub opening_on_two : CallOnTwo → List ℕ
opening_on_two asked = word_on_two asked ++ 32 ∷ []

-- ---- what a word asks for

-- the call about one task that a word asks for
abbrev pub call_on_one : List ℕ → Option CallOnOne
call_on_one word =
    if bytes_eq word (word_on_one one.Leave) then Some one.Leave
    else if bytes_eq word (word_on_one one.Hungry) then Some one.Hungry
    else if bytes_eq word (word_on_one one.Begin) then Some one.Begin
    else if bytes_eq word (word_on_one one.Finish) then Some one.Finish
    else if bytes_eq word (word_on_one one.Withdraw) then Some one.Withdraw
    else None

-- the call about two tasks that a word asks for
abbrev pub call_on_two : List ℕ → Option CallOnTwo
call_on_two word =
    if bytes_eq word (word_on_two two.Conflict) then Some two.Conflict
    else if bytes_eq word (word_on_two two.Separate) then Some two.Separate
    else None

-- ---- the calls, about the tasks that are named after the word

-- the call about this task
abbrev pub call_about_one : CallOnOne → Task → Call
call_about_one one.Leave t = call.Leave t
call_about_one one.Hungry t = call.Hungry t
call_about_one one.Begin t = call.Begin t
call_about_one one.Finish t = call.Finish t
call_about_one one.Withdraw t = call.Withdraw t

-- the call about these tasks
abbrev pub call_about_two : CallOnTwo → Task → Task → Call
call_about_two two.Conflict t u = call.Conflict t u
call_about_two two.Separate t u = call.Separate t u
