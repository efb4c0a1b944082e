-- Runs of lines: the calls that lines make, one after the other, with the replies that they get.
use Rattle.std.specs.Prelude.{◌≡◌, ◌≢◌, ℕ, zero, suc, List, map, [], ◌∷◌, ◌++◌, Option, Some, None}
use Rattle.std.specs.Option.{option_map}
use Rattle.dine_words.specs.declared.task.Task.{Task}
use Rattle.dine_words.specs.declared.call.Call.{Call}
use Rattle.dine_words.specs.declared.call.Call.TheVariants as call
use Rattle.dine_words.specs.declared.call.Reply.{Reply}
use Rattle.dine_words.specs.declared.call.Reply.TheVariants.{Joined, Done, Refused}
use Rattle.dine_words.specs.declared.call.Refusal.TheVariants.{NotYet}
use Rattle.dine_words.specs.declared.call_word.CallOnTwo.{CallOnTwo}
use Rattle.dine_words.specs.CallWords.{call_about_one, call_about_two}
use Rattle.dine_lines.specs.Names.{Names, rebound, task_named}
use Rattle.dine_scenario.specs.declared.scenario.NamedCall.{NamedCall}
use Rattle.dine_scenario.specs.declared.scenario.NamedCall.TheVariants as named
use Rattle.dine_scenario.specs.declared.scenario.Step.{Step}
use Rattle.dine_scenario.specs.declared.scenario.Step.TheVariants as step

-- a call that was made, with its reply
abbrev pub Made : Type 0
Made = Call × Reply

-- ---- calls

-- the call about two tasks, if both are there
abbrev pub call_on_both : CallOnTwo → Option Task → Option Task → Option Call
call_on_both asked None second = None
call_on_both asked (Some t) None = None
call_on_both asked (Some t) (Some u) = Some (call_about_two asked t u)

-- the call of a line, by the names that are bound so far. There is none where a name is still free, but for a join
abbrev pub call_named : Names → NamedCall → Option Call
call_named names (named.Join name) = Some call.Join
call_named names (named.OnOne asked name) = option_map (call_about_one asked) (task_named names name)
call_named names (named.OnTwo asked first second) =
    call_on_both asked (task_named names first) (task_named names second)

-- the names after a line's call was answered: a task that joined takes the name, also where it was bound before
abbrev pub names_after : NamedCall → Reply → Names → Names
names_after (named.Join name) (Joined t) names = rebound names name t
names_after (named.Join name) Done names = names
names_after (named.Join name) (Refused refusal) names = names
names_after (named.OnOne asked name) reply names = names
names_after (named.OnTwo asked first second) reply names = names

-- the part of a line that has this call, or none, and the names after it
abbrev pub IsCallPart : NamedCall → Option Call → Names → List Made → Names → Type 0
IsCallPart line None names part after = (part ≡ []) × (after ≡ names)
IsCallPart line (Some asked) names part after =
    (reply : Reply) × (part ≡ (asked, reply) ∷ []) × (after ≡ names_after line reply names)

-- ---- meals

-- more calls follow a reply of Done alone
abbrev pub IfDone : Reply → (List Made → Type 0) → List Made → Type 0
IfDone Done More rest = More rest
IfDone (Joined t) More rest = rest ≡ []
IfDone (Refused refusal) More rest = rest ≡ []

-- the task finishes
abbrev pub IsFinish : Task → List Made → Type 0
IsFinish t part = (reply : Reply) × (part ≡ (call.Finish t, reply) ∷ [])

-- the task begins in turn, which is never answered NotYet, and then finishes
abbrev pub IsBeginAndFinish : Task → List Made → Type 0
IsBeginAndFinish t part =
    (reply : Reply) × (rest : List Made)
    × (part ≡ (call.Begin t, reply) ∷ rest) × (reply ≢ Refused NotYet) × IfDone reply (IsFinish t) rest

-- the task grows hungry, begins in turn, and finishes. The first refusal ends it
abbrev pub IsMeal : Task → List Made → Type 0
IsMeal t part =
    (reply : Reply) × (rest : List Made)
    × (part ≡ (call.Hungry t, reply) ∷ rest) × IfDone reply (IsBeginAndFinish t) rest

-- a meal of the task, if there is one
abbrev pub IsMealIfBound : Option Task → List Made → Type 0
IsMealIfBound None part = part ≡ []
IsMealIfBound (Some t) part = IsMeal t part

-- ---- runs

-- the part of one line, by the names that are bound so far, and the names after it
abbrev pub IsPart : Names → Step → List Made → Names → Type 0
IsPart names (step.Call line) part after = IsCallPart line (call_named names line) names part after
IsPart names (step.Eat name) part after = IsMealIfBound (task_named names name) part × (after ≡ names)
IsPart names (step.Look name) part after = (part ≡ []) × (after ≡ names)

-- the calls are a run of the lines, from these names: one part for each line, in order. The last names are those after it
abbrev pub RunsLines : Names → List Step → List Made → Names → Type 0
RunsLines names [] calls after = (calls ≡ []) × (after ≡ names)
RunsLines names (line ∷ lines) calls after =
    (part rest : List Made) × (between : Names)
    × (calls ≡ part ++ rest) × IsPart names line part between × RunsLines between lines rest after

-- the lines, repeated so often
abbrev pub repeated : ℕ → List Step → List Step
repeated zero lines = []
repeated (suc n) lines = lines ++ repeated n lines

-- the lines of a setup
abbrev pub lines_of_setup : List NamedCall → List Step
lines_of_setup setup = map (λ line. step.Call line) setup
