-- What a line asks for.
use Rattle.std.specs.Prelude.{ℕ, ◌-◌, ◌^◌, Bool, true, false, if◌then◌else◌, List, [], ◌∷◌, codes, Option, Some, None, option_map, Result, Ok, Err}
use Rattle.std.specs.Str.{bytes_eq}
use Rattle.dine_serve.specs.Words.{Call, ◌>>=◌, after_or, call_at, number_at, task_at, whole, word_at, written_version, is_passed_over, words_of, LineFault, Words, Question, State, Neighbours, Blockers, Next, Ready, Request, Ask, Order, Numbered, Deed, Make, Cancel}
use Rattle.dine_serve.specs.declared.request.Deed.TheVariants.{Await}

-- a number up to this one and a space, and what comes after them
abbrev pub spaced_at : ℕ → List ℕ → Option (ℕ × List ℕ)
spaced_at most bytes = do
  number ← number_at most bytes
  space ← word_at (codes " ") number.1
  Some (number.0, space)

-- the number of a pass and a space, and what comes after them
abbrev pub pass_at : List ℕ → Option (ℕ × List ℕ)
pass_at line = spaced_at (2 ^ 32 - 1) line

-- a question: `state`, `neighbours` or `blockers` and a task, or `next` or `ready`
abbrev pub question_of : List ℕ → Option Question
question_of line =
    after_or (word_at (codes "state ") line) (λ rest. option_map State (whole (task_at rest)))
    (after_or (word_at (codes "neighbours ") line) (λ rest. option_map Neighbours (whole (task_at rest)))
    (after_or (word_at (codes "blockers ") line) (λ rest. option_map Blockers (whole (task_at rest)))
    (if bytes_eq line (codes "next") then Some Next else (if bytes_eq line (codes "ready") then Some Ready else None))))

-- a question, as a request
abbrev pub ask_request : Option Question → Option Request
ask_request None = None
ask_request (Some question) = Some (Ask question)

-- the call that all of the bytes are
abbrev pub make_of : Call × List ℕ → Option Deed
make_of (call, []) = Some (Make call)
make_of (call, byte ∷ bytes) = None

-- a begin that is to wait, or to wait no longer: `await` or `cancel` and a task
abbrev pub wait_of : List ℕ → Option Deed
wait_of bytes =
    after_or (word_at (codes "await ") bytes) (λ rest. option_map Await (whole (task_at rest)))
    (after_or (word_at (codes "cancel ") bytes) (λ rest. option_map Cancel (whole (task_at rest)))
    None)

-- what a pass wants done, by the call that stands at the front, if one does
abbrev pub deed_by : Option (Call × List ℕ) → List ℕ → Option Deed
deed_by None bytes = wait_of bytes
deed_by (Some found) bytes = make_of found

-- what a pass wants done
abbrev pub deed_of : List ℕ → Option Deed
deed_of bytes = deed_by (call_at written_version bytes) bytes

-- what a pass wants done, as a request
abbrev pub order_request : ℕ → Option Deed → Option Request
order_request pass None = None
order_request pass (Some deed) = Some (Order pass deed)

-- the same with the number of the request
abbrev pub numbered_request : ℕ → ℕ → Option Deed → Option Request
numbered_request pass number None = None
numbered_request pass number (Some deed) = Some (Numbered pass number deed)

-- the same by the number that stands at the front
abbrev pub numbered_by : ℕ → Option (ℕ × List ℕ) → Option Request
numbered_by pass None = None
numbered_by pass (Some (number, rest)) = numbered_request pass number (deed_of rest)

-- what a pass wants done, as a request. Where requests have numbers, its number stands in front
abbrev pub order_at : Bool → ℕ → List ℕ → Option Request
order_at false pass bytes = order_request pass (deed_of bytes)
order_at true pass bytes = numbered_by pass (spaced_at (2 ^ 64 - 1) bytes)

-- the request that a line is, by the pass that stands at its front: the front of a journal's line, or a question
abbrev pub request_by : Bool → Option (ℕ × List ℕ) → List ℕ → Option Request
request_by numbered None line = ask_request (question_of line)
request_by numbered (Some (pass, rest)) line = order_at numbered pass rest

-- the request that a line is
abbrev pub request_of : Bool → List ℕ → Option Request
request_of numbered line = request_by numbered (pass_at line) line

-- the request, if there is one
abbrev pub some_request : Option Request → Result (Option Request) LineFault
some_request None = Err Words
some_request (Some request) = Ok (Some request)

-- what a line asks for, as it is seen: nothing where it is passed over
abbrev pub reading_of : Bool → Option (List ℕ) → Result (Option Request) LineFault
reading_of numbered None = Err Words
reading_of numbered (Some line) =
    if is_passed_over (words_of line) then Ok None else some_request (request_of numbered line)
