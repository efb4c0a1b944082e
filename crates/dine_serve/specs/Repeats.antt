-- Requests that come again: which lines they are, and how often a number is carried out.
use Rattle.std.specs.Prelude.{ℕ, ◌+◌, ◌==◌, Bool, true, false, not, ◌&&◌, if◌then◌else◌, List, [], ◌∷◌, Option, Some, None, is_some, Result, Ok, Err}
use Rattle.dine_serve.specs.Words.{LineFault, Coming, First, Again, Stale, Foreign, Request, Ask, Order, Numbered}
use Rattle.dine_serve.specs.Receipts.{coming_of}
use Rattle.dine_serve.specs.Requests.{reading_of}
use Rattle.dine_serve.specs.Serving.{Broker, after_reading, answer_done, counted}

-- ---- lines that come again

-- a request that comes so has come before
abbrev pub is_again : Coming → Bool
is_again First = false
is_again (Again answer) = true
is_again Stale = false
is_again Foreign = false

-- the line that was read so is its pass's last request, come again
abbrev pub is_repeat : Broker → Result (Option Request) LineFault → Bool
is_repeat s (Ok None) = false
is_repeat s (Ok (Some (Ask question))) = false
is_repeat s (Ok (Some (Order pass deed))) = false
is_repeat s (Ok (Some (Numbered pass number deed))) = is_again (coming_of s.receipts pass number)
is_repeat s (Err found) = false

-- a blank line stands in the place of each that comes again. So the lines keep their numbers, by which faults are told
abbrev pub without_repeats : Broker → List (Option (List ℕ)) → List (Option (List ℕ))
without_repeats s [] = []
without_repeats s (line ∷ lines) =
    let reading = reading_of s.is_numbered line in
    (if is_repeat s reading then Some [] else line) ∷ without_repeats (after_reading (counted s) reading) lines

-- the line doesn't begin with `=`, as the answer to one that comes again does
abbrev pub is_no_repeat : List ℕ → Bool
is_no_repeat [] = true
is_no_repeat (byte ∷ bytes) = not (byte == 61)

-- ---- numbers that are carried out

-- a request that comes so has not come before
abbrev pub is_first : Coming → Bool
is_first First = true
is_first (Again answer) = false
is_first Stale = false
is_first Foreign = false

-- the line that was read so is the request of this pass that has this number, and it is carried out
abbrev pub is_carried_out : ℕ → ℕ → Broker → Result (Option Request) LineFault → Bool
is_carried_out pass number s (Ok None) = false
is_carried_out pass number s (Ok (Some (Ask question))) = false
is_carried_out pass number s (Ok (Some (Order p deed))) = false
is_carried_out pass number s (Ok (Some (Numbered p n deed))) =
    ((p == pass) && (n == number)) && (is_first (coming_of s.receipts p n) && is_some (answer_done s p deed))
is_carried_out pass number s (Err found) = false

-- how often it is
abbrev pub times_carried_out : ℕ → ℕ → Broker → List (Option (List ℕ)) → ℕ
times_carried_out pass number s [] = 0
times_carried_out pass number s (line ∷ lines) =
    let reading = reading_of s.is_numbered line in
    (if is_carried_out pass number s reading then 1 else 0)
    + times_carried_out pass number (after_reading (counted s) reading) lines
