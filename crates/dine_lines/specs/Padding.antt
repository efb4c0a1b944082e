-- How a name is kept: its word, filled up with zeros. A name has no zero, so its word is what stands before the first.
use Rattle.std.specs.Prelude.{◌≡◌, ◌<◌, ◌≤◌, ℕ, zero, suc, ◌-◌, true, false, List, [], ◌∷◌, ◌++◌, length, take, drop, replicate, slice_get, Some}
use Rattle.std.specs.Int.{to_le_bytes, w64}
use Rattle.std.specs.List.{list_all}
use Rattle.dine_words.specs.declared.task.Task.{Task}
use Rattle.dine_lines.specs.Names.{Names, begins_name, is_name, is_name_byte, most_letters, task_named}

-- the word, filled up with zeros
abbrev pub padded : List ℕ → List ℕ
padded word = word ++ replicate (most_letters - length word) 0

-- what stands before the first zero
abbrev pub word_in : List ℕ → List ℕ
word_in [] = []
word_in (zero ∷ letters) = []
word_in (suc byte ∷ letters) = suc byte ∷ word_in letters

-- these are the letters of a name, filled up with zeros
pub record IsNameKept (letters : List ℕ) : Type 0 where
  pub padded : letters ≡ padded (word_in letters)
  pub name : is_name (word_in letters) ≡ true

-- these are the letters at the front of a text, as many as a name may have, filled up with zeros, and there are so many
pub record AreFront (text kept : List ℕ) (len : ℕ) : Type 0 where
  pub bound : len ≤ length text
  pub letters : kept ≡ padded (take len text)
  pub all : list_all is_name_byte (take len text) ≡ true
  pub most : len ≤ most_letters
  pub end : len < most_letters → begins_name (drop len text) ≡ false

-- a name is bound to the task whose letters, filled up with zeros, are these two numbers of eight bytes
pub record IsBoundAs (names : Names) (low high : ℕ) (t : Task) : Type 0 where
  pub name : List ℕ
  pub letters : is_name name ≡ true
  pub halves : padded name ≡ to_le_bytes w64 low ++ to_le_bytes w64 high
  pub bound : task_named names name ≡ Some t

-- the name that was bound at this place has such letters, filled up with zeros
pub record IsNameAt (names : Names) (place low high : ℕ) : Type 0 where
  pub bound : List ℕ × Task
  pub at : slice_get names place ≡ Some bound
  pub halves : padded bound.0 ≡ to_le_bytes w64 low ++ to_le_bytes w64 high
