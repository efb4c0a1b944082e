-- What one line of a scenario asks for, or the first fault that it has.
use Rattle.std.specs.Prelude.{ℕ, Bool, ◌||◌, if◌then◌else◌, List, [], ◌∷◌, ◌++◌, codes, Option, Some, None, option_map, Result, Ok, Err}
use Rattle.std.specs.List.{list_all, list_any}
use Rattle.std.specs.Option.{option_or}
use Rattle.std.specs.Str.{bytes_eq}
use Rattle.dine_lines.specs.declared.line_fault.LineFault.{LineFault}
use Rattle.dine_lines.specs.declared.line_fault.LineFault.TheVariants as fault
use Rattle.dine_words.specs.CallWords.{call_on_one, call_on_two, join_word}
use Rattle.dine_lines.specs.Lines.{words_of, is_line_feed, is_too_long}
use Rattle.dine_lines.specs.Names.{is_name}
use Rattle.dine_scenario.specs.declared.scenario.NamedCall.{NamedCall}
use Rattle.dine_scenario.specs.declared.scenario.NamedCall.TheVariants as named
use Rattle.dine_scenario.specs.declared.scenario.Step.{Step}
use Rattle.dine_scenario.specs.declared.scenario.Step.TheVariants as step

infixl 10 ◌>>=◌
-- the next result, from a result that is no error
abbrev pub ◌>>=◌ : {A B E : Type 0} → Result A E → (A → Result B E) → Result B E
(Ok x) >>= next = next x
(Err e) >>= next = Err e

-- ---- words

-- the words of a line of a scenario. One that is too long, or has a line feed, counts as one without words
abbrev pub scenario_words : List ℕ → List (List ℕ)
scenario_words line = if is_too_long line || list_any is_line_feed line then [] else words_of line

-- the call that words ask for, whatever stands in the place of its names
abbrev pub call_asked : List (List ℕ) → Option NamedCall
call_asked [] = None
call_asked (word ∷ []) = None
call_asked (word ∷ name ∷ []) =
    if bytes_eq word join_word then Some (named.Join name)
    else option_map (λ asked. named.OnOne asked name) (call_on_one word)
call_asked (word ∷ first ∷ second ∷ []) = option_map (λ asked. named.OnTwo asked first second) (call_on_two word)
call_asked (word ∷ first ∷ second ∷ third ∷ more) = None

-- the meal or the look that words ask for
abbrev pub meal_or_look : List (List ℕ) → Option Step
meal_or_look [] = None
meal_or_look (word ∷ []) = None
meal_or_look (word ∷ name ∷ []) =
    if bytes_eq word (codes "eat") then Some (step.Eat name)
    else if bytes_eq word (codes "look") then Some (step.Look name)
    else None
meal_or_look (word ∷ name ∷ other ∷ more) = None

-- the step that words ask for
abbrev pub step_asked : List (List ℕ) → Option Step
step_asked words = option_or (meal_or_look words) (option_map step.Call (call_asked words))

-- ---- names

-- the name that a call joins
abbrev pub joined_by : NamedCall → List (List ℕ)
joined_by (named.Join name) = name ∷ []
joined_by (named.OnOne asked name) = []
joined_by (named.OnTwo asked first second) = []

-- the names that are to be joined before a call
abbrev pub needed_by : NamedCall → List (List ℕ)
needed_by (named.Join name) = []
needed_by (named.OnOne asked name) = name ∷ []
needed_by (named.OnTwo asked first second) = first ∷ second ∷ []

-- the names that are to be joined before a step
abbrev pub needed_by_step : Step → List (List ℕ)
needed_by_step (step.Call call) = needed_by call
needed_by_step (step.Eat name) = name ∷ []
needed_by_step (step.Look name) = name ∷ []

-- the names of a call
abbrev pub names_of_call : NamedCall → List (List ℕ)
names_of_call call = joined_by call ++ needed_by call

-- the names of a step
abbrev pub names_of_step : Step → List (List ℕ)
names_of_step (step.Call call) = names_of_call call
names_of_step (step.Eat name) = name ∷ []
names_of_step (step.Look name) = name ∷ []

-- what words ask for, with these names, if they ask for something and the names are names
abbrev pub if_named : {A : Type 0} → (A → List (List ℕ)) → Option A → Result A LineFault
if_named names None = Err fault.Words
if_named names (Some asked) = if list_all is_name (names asked) then Ok asked else Err fault.Name

-- the call of a line, whichever names are known
abbrev pub call_of : List ℕ → Result NamedCall LineFault
call_of line = if_named names_of_call (call_asked (scenario_words line))

-- the step of a line, whichever names are known
abbrev pub step_of : List ℕ → Result Step LineFault
step_of line = if_named names_of_step (step_asked (scenario_words line))

-- ---- known names

-- the name is one of those known
abbrev pub is_known : List (List ℕ) → List ℕ → Bool
is_known known name = list_any (bytes_eq name) known

-- the known names after a call: each once, in the order in which they were joined first
abbrev pub known_after : List (List ℕ) → NamedCall → List (List ℕ)
known_after known (named.Join name) = if is_known known name then known else known ++ name ∷ []
known_after known (named.OnOne asked name) = known
known_after known (named.OnTwo asked first second) = known

-- the call that a step is, if it is one
abbrev pub as_call : Step → Option NamedCall
as_call (step.Call call) = Some call
as_call (step.Eat name) = None
as_call (step.Look name) = None

-- the known names after a call, if there is one
abbrev pub known_after_any : List (List ℕ) → Option NamedCall → List (List ℕ)
known_after_any known None = known
known_after_any known (Some call) = known_after known call

-- the known names after a step
abbrev pub known_after_step : List (List ℕ) → Step → List (List ℕ)
known_after_step known asked = known_after_any known (as_call asked)

-- this, if the names that it needs are known
abbrev pub unless_unbound : {A : Type 0} → List (List ℕ) → List (List ℕ) → A → Result A LineFault
unless_unbound known needed asked = if list_all (is_known known) needed then Ok asked else Err fault.Unbound

-- the call, if the name that it joins is not known, and those that it needs are
abbrev pub unless_bound : List (List ℕ) → NamedCall → Result NamedCall LineFault
unless_bound known call =
    if list_any (is_known known) (joined_by call) then Err fault.Bound
    else unless_unbound known (needed_by call) call

-- the call of a line of the setup, where the lines before it join these names
abbrev pub setup_call : List (List ℕ) → List ℕ → Result NamedCall LineFault
setup_call known line = call_of line >>= unless_bound known

-- the step of a line, where the setup and the steps before it join these names
abbrev pub worker_step : List (List ℕ) → List ℕ → Result Step LineFault
worker_step known line = step_of line >>= (λ asked. unless_unbound known (needed_by_step asked) asked)
