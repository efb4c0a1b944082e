-- What the private functions that cut a line into words are promised to give.
use Rattle.std.specs.Prelude.{◌≡◌, ℕ, List, [], ◌∷◌, None}
use Rattle.dine_scenario.specs.declared.worker_line.Words.{Words}
use Rattle.dine_scenario.specs.declared.worker_line.Words.TheVariants.{One, Two}
use Rattle.dine_scenario.specs.Asked.{call_asked, meal_or_look}

-- the words, one after the other
abbrev pub words_seen : Words → List (List ℕ)
words_seen (One word name) = word.now ∷ name.now ∷ []
words_seen (Two word first second) = word.now ∷ first.now ∷ second.now ∷ []

-- no line has these words
abbrev pub AsksNothing : List (List ℕ) → Type 0
AsksNothing words = (call_asked words ≡ None) × (meal_or_look words ≡ None)
