-- What a line of a script asks for, or the first fault that it has.
use Rattle.std.specs.Prelude.{◌≡◌, ◌<◌, ◌-◌, drop, length, ℕ, not, ◌&&◌, if◌then◌else◌, List, [], ◌∷◌, codes, Option, Some, None, is_some, Result, Ok, Err}
use Rattle.std.specs.Str.{bytes_eq}
use Rattle.dine_words.specs.declared.task.Task.{Task}
use Rattle.dine_script.specs.declared.command.Command.{Command}
use Rattle.dine_script.specs.declared.command.Command.TheVariants as command
use Rattle.dine_script.specs.declared.command.AboutOne.{AboutOne}
use Rattle.dine_script.specs.declared.command.AboutOne.TheVariants as one
use Rattle.dine_words.specs.declared.call_word.CallOnOne.{CallOnOne}
use Rattle.dine_words.specs.declared.call_word.CallOnTwo.{CallOnTwo}
use Rattle.dine_lines.specs.Usual.{Usual}
use Rattle.dine_lines.specs.Usual as usual
use Rattle.dine_lines.specs.declared.line_fault.LineFault.{LineFault}
use Rattle.dine_lines.specs.declared.line_fault.LineFault.TheVariants as fault
use Rattle.dine_words.specs.CallWords.{call_on_one, call_on_two, call_about_one, call_about_two, join_word}
use Rattle.dine_lines.specs.Lines.{lines_of, words_of, is_too_long, is_passed_over}
use Rattle.dine_lines.specs.Names.{Names, is_name, task_named}

-- what a word asks about one task that asks for no call
abbrev pub question_about_one : List ℕ → Option AboutOne
question_about_one word =
    if bytes_eq word (codes "state") then Some one.State
    else if bytes_eq word (codes "neighbours") then Some one.Neighbours
    else None

-- the call, or else what the word asks without one
abbrev pub call_or_question : Option CallOnOne → List ℕ → Option AboutOne
call_or_question (Some asked) word = Some (one.Call asked)
call_or_question None word = question_about_one word

-- what a word asks about one task
abbrev pub about_one : List ℕ → Option AboutOne
about_one word = call_or_question (call_on_one word) word

-- the command about this task
abbrev pub command_on_one : AboutOne → Task → Command
command_on_one (one.Call asked) t = command.Call (call_about_one asked t)
command_on_one one.State t = command.State t
command_on_one one.Neighbours t = command.Neighbours t

-- the command about the task, if its name is bound
abbrev pub on_bound : AboutOne → Option Task → Result Command LineFault
on_bound about None = Err fault.Unbound
on_bound about (Some t) = Ok (command_on_one about t)

-- the call about the tasks, if both names are bound
abbrev pub on_both_bound : CallOnTwo → Option Task → Option Task → Result Command LineFault
on_both_bound asked None second = Err fault.Unbound
on_both_bound asked (Some t) None = Err fault.Unbound
on_both_bound asked (Some t) (Some u) = Ok (command.Call (call_about_two asked t u))

-- `join` and a name, which is to be free
abbrev pub join_of : Names → List ℕ → Result Command LineFault
join_of names name =
    if not (is_name name) then Err fault.Name
    else if is_some (task_named names name) then Err fault.Bound
    else Ok (command.Join name)

-- a word that asks about one task, and a name
abbrev pub one_named : Names → Option AboutOne → List ℕ → Result Command LineFault
one_named names None name = Err fault.Words
one_named names (Some about) name =
    if is_name name then on_bound about (task_named names name) else Err fault.Name

-- a word that asks for a call about two tasks, and their names
abbrev pub two_named : Names → Option CallOnTwo → List ℕ → List ℕ → Result Command LineFault
two_named names None first second = Err fault.Words
two_named names (Some asked) first second =
    if is_name first && is_name second
    then on_both_bound asked (task_named names first) (task_named names second)
    else Err fault.Name

-- a lone word
abbrev pub unnamed : List ℕ → Result Command LineFault
unnamed word = if bytes_eq word (codes "next") then Ok command.Next else Err fault.Words

-- what the words of a line ask for. Its faults in their order: the words, a name, a bound name, an unbound name
abbrev pub command_of : Names → List (List ℕ) → Result Command LineFault
command_of names [] = Err fault.Words
command_of names (word ∷ []) = unnamed word
command_of names (word ∷ name ∷ []) =
    if bytes_eq word join_word then join_of names name else one_named names (about_one word) name
command_of names (word ∷ first ∷ second ∷ []) = two_named names (call_on_two word) first second
command_of names (word ∷ first ∷ second ∷ third ∷ more) = Err fault.Words

-- the command, as one that is there
abbrev pub some_command : Result Command LineFault → Result (Option Command) LineFault
some_command (Ok asked) = Ok (Some asked)
some_command (Err found) = Err found

-- what a line asks for: nothing where it is passed over
abbrev pub reading_of : Names → List ℕ → Result (Option Command) LineFault
reading_of names line =
    if is_too_long line then Err fault.Words
    else if is_passed_over (words_of line) then Ok None
    else some_command (command_of names (words_of line))

-- the first line of the text asks for this, or has this fault, and then comes the rest
pub record ReadsFirst (names : Names) (text rest : List ℕ) (reading : Result Command LineFault) : Type 0 where
  pub line : List ℕ
  pub first : lines_of text ≡ line ∷ lines_of rest
  pub shorter : length rest < length text
  pub left : rest ≡ drop (length text - length rest) text
  pub read : reading_of names line ≡ some_command reading

-- what a usual line asks for
abbrev pub usual_command : Usual → Command
usual_command (usual.OnOne asked t) = command.Call (call_about_one asked t)
usual_command (usual.OnTwo asked t u) = command.Call (call_about_two asked t u)
usual_command (usual.State t) = command.State t
usual_command (usual.Neighbours t) = command.Neighbours t
usual_command (usual.Join name) = command.Join name

-- a command to join has a name that is free
abbrev pub IsFree : Names → Command → Type 0
IsFree names (command.Join name) = task_named names name ≡ None
IsFree names (command.Call asked) = Unit {0}
IsFree names (command.State t) = Unit {0}
IsFree names (command.Neighbours t) = Unit {0}
IsFree names command.Next = Unit {0}
