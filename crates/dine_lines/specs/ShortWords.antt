-- Words of short lines, each with the byte that ends it.
use Rattle.std.specs.Prelude.{◌≡◌, ◌<◌, ◌≤◌, ◌-◌, drop, ℕ, nat_lt, Bool, true, false, if◌then◌else◌, List, ◌∷◌, ◌++◌, length, take}
use Rattle.std.specs.List.{list_all}
use Rattle.dine_lines.specs.Lines.{is_blank, lines_of, words_of}

-- a byte above the space: it is neither a blank nor a line feed
abbrev pub is_above_space : ℕ → Bool
is_above_space byte = nat_lt 32 byte

-- the text begins with a word of so many bytes, all above the space, and with the byte that ends it: a line feed where the
-- word is the last of its line, and else a space. And then comes the rest
pub record BeginsWord (text : List ℕ) (len : ℕ) (is_last : Bool) (rest : List ℕ) : Type 0 where
  pub some : 0 < len
  pub short : len < 32
  pub within : len ≤ length text
  pub above : list_all is_above_space (take len text) ≡ true
  pub is : text ≡ take len text ++ (if is_last then 10 else 32) ∷ rest

-- the text begins with fewer than 32 blanks, and then comes the rest
pub record BeginsBlank (text : List ℕ) (rest : List ℕ) : Type 0 where
  pub gap : List ℕ
  pub blanks : list_all is_blank gap ≡ true
  pub few : length gap < 32
  pub is : text ≡ gap ++ rest

-- the text begins with a word of so many bytes, all above the space, and with blanks, one at least where the word isn't the
-- last of its line; and with a line feed, where it is. And then comes the rest
pub record BeginsSpaced (text : List ℕ) (len : ℕ) (is_last : Bool) (rest : List ℕ) : Type 0 where
  pub some : 0 < len
  pub short : len < 32
  pub within : len ≤ length text
  pub above : list_all is_above_space (take len text) ≡ true
  pub gap : List ℕ
  pub blanks : list_all is_blank gap ≡ true
  pub few : length gap ≤ 32
  pub apart : is_last ≡ false → 0 < length gap
  pub is : text ≡ take len text ++ gap ++ (if is_last then 10 ∷ rest else rest)

-- the first line of the text has a word, and then comes the rest
pub record BeginsFilledLine (text : List ℕ) (rest : List ℕ) : Type 0 where
  pub line : List ℕ
  pub first : lines_of text ≡ line ∷ lines_of rest
  pub shorter : length rest < length text
  pub left : rest ≡ drop (length text - length rest) text
  pub word : List ℕ
  pub words : List (List ℕ)
  pub cut : words_of line ≡ word ∷ words
