-- The book that a history is written in, and what is published of it.
use Rattle.std.specs.Prelude.{ℕ, ◌≡◌, ◌+◌, ◌==◌, true, if◌then◌else◌, List, [], ◌∷◌, ◌++◌, length, MatchBool, Option, None}
use Rattle.logbook.specs.Pages.{Cell, Step, View, Book, Named}
use Rattle.dine_words.specs.declared.call.Call.{Call}
use Rattle.dine_words.specs.declared.call.Reply.{Reply}
use Rattle.dine_words.specs.declared.entry.Entry.{Entry}
use Rattle.dine_journal.specs.declared.board.Change.{Change}
use Rattle.dine_journal.specs.Told.{told_by}

-- the rule of the book: its first word is the length of the history
pub record IsCountedBy (cells : List Cell) (log : List Entry) : Type 0 where
  pub words : cells ≡ (length log, true) ∷ (0, true) ∷ []

-- the word of a book that counts its history
abbrev pub counter_of : Book → Named
counter_of b = record { tracked = true; key = 0; book = b }

-- what a step tells that found the counter at the number that it asked about: all had been seen, and was so many entries,
-- and the entry is next. Else nothing
abbrev pub Writes : Step Entry → View Entry ℕ → ℕ → View Entry ℕ → Type 0
Writes s v found w =
    MatchBool (found == s.old) ((length v.0 ≡ s.old) × (w.0 ≡ v.0 ++ s.ask ∷ [])) (Unit {0})

-- what a step tells that counts the entries: their number is the one found
abbrev pub Counts : Step Entry → View Entry ℕ → ℕ → View Entry ℕ → Type 0
Counts s v found w = found ≡ length w.0

-- an entry that is never written
abbrev pub no_entry : Entry
no_entry = record { pass = 0; call = Call.Join; reply = Reply.Done }

-- what the last of these entries tells, and this where there is none
abbrev pub last_told_from : Option Change → List Entry → Option Change
last_told_from told [] = told
last_told_from told (e ∷ es) = last_told_from (told_by e) es

-- what the last entry of the list tells: nothing where there is none
abbrev pub last_told : List Entry → Option Change
last_told history = last_told_from None history

-- the second list where it is longer by one, and else the first
abbrev pub longer_by_one : List Entry → List Entry → List Entry
longer_by_one xs ys = if length ys == length xs + 1 then ys else xs
