-- The lines of a script, and the words of a line.
use Rattle.std.specs.Prelude.{◌≡◌, ◌<◌, ◌-◌, ℕ, ◌==◌, nat_lt, Bool, true, false, ◌||◌, if◌then◌else◌, List, [], ◌∷◌, drop, length}
use Rattle.std.specs.List.{filter}
use Rattle.dine_words.specs.Ranges.{most_bytes}

-- a line feed
abbrev pub is_line_feed : ℕ → Bool
is_line_feed byte = byte == 10

-- a space, a tab or a carriage return
abbrev pub is_blank : ℕ → Bool
is_blank byte = (byte == 32) || (byte == 9) || (byte == 13)

-- the byte, at the front of the first piece
abbrev pub onto_first : ℕ → List (List ℕ) → List (List ℕ)
onto_first byte [] = (byte ∷ []) ∷ []
onto_first byte (piece ∷ pieces) = (byte ∷ piece) ∷ pieces

-- the pieces of a text: each ends before a byte that passes the test, and the last may lack that byte
abbrev pub pieces_of : (ℕ → Bool) → List ℕ → List (List ℕ)
pieces_of ends [] = []
pieces_of ends (byte ∷ bytes) =
    if ends byte then [] ∷ pieces_of ends bytes else onto_first byte (pieces_of ends bytes)

-- the lines of a text, without their line feeds. The last line may lack its line feed
abbrev pub lines_of : List ℕ → List (List ℕ)
lines_of text = pieces_of is_line_feed text

-- the piece has a byte
abbrev pub is_filled : List ℕ → Bool
is_filled [] = false
is_filled (byte ∷ bytes) = true

-- the words of a line: runs of blanks separate them, and may stand at either end
abbrev pub words_of : List ℕ → List (List ℕ)
words_of line = filter is_filled (pieces_of is_blank line)

-- the line has more bytes than a line may have, its line feed not counted
abbrev pub is_too_long : List ℕ → Bool
is_too_long line = nat_lt most_bytes (length line)

-- the word begins with `#`
abbrev pub begins_comment : List ℕ → Bool
begins_comment [] = false
begins_comment (byte ∷ bytes) = byte == 35

-- a line of these words is passed over: it has none, or the first begins a comment
abbrev pub is_passed_over : List (List ℕ) → Bool
is_passed_over [] = true
is_passed_over (word ∷ words) = begins_comment word

-- the first line of the text is passed over, and then comes the rest
pub record PassesFirst (text rest : List ℕ) : Type 0 where
  pub line : List ℕ
  pub first : lines_of text ≡ line ∷ lines_of rest
  pub shorter : length rest < length text
  pub left : rest ≡ drop (length text - length rest) text
  pub short : is_too_long line ≡ false
  pub passed : is_passed_over (words_of line) ≡ true
