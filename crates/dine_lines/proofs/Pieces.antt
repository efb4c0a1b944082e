-- Where the pieces of a text end.
use Rattle.std.proofs.Common.{◌≡◌, ℕ, zero, suc, ◌==◌, if◌then◌else◌, ◌<◌, ◌≤◌, ◌-◌, Bool, true, false, List, [], ◌∷◌, length, get_or, take, drop, refl, sym, ap, subst, ◌∙◌, ◌⊎◌, inl, inr, arith, length-drop}
use Rattle.std.proofs.lemmas.List.{take_all, drop_all}
use Rattle.std.proofs.lemmas.Bool.{cases_lt}
use Rattle.std.specs.List.{filter}
use Rattle.memchr.specs.Find.{is_byte, Passes, Nowhere, NoneBefore}
use Rattle.dine_lines.specs.Lines.{is_line_feed, is_passed_over, lines_of, onto_first, pieces_of, is_filled, is_blank, words_of}

module _ (ends : ℕ → Bool) where
  -- the first piece of a text ends at the first byte that passes the test
  pub pieces_of-first : (k : ℕ) (bytes : List ℕ) → k < length bytes → ((i : ℕ) → i < k → ends (get_or bytes i 0) ≡ false) → ends (get_or bytes k 0) ≡ true → pieces_of ends bytes ≡ take k bytes ∷ pieces_of ends (drop (suc k) bytes)
  pieces_of-first k [] short none at = absurd (omega arith)
  pieces_of-first zero (byte ∷ bytes) short none at = rw at refl
  pieces_of-first (suc k) (byte ∷ bytes) short none at =
      rw (none 0 (omega arith), pieces_of-first k bytes (omega arith) (λ i h. none (suc i) (omega arith)) at) refl

  -- a text without such a byte is one piece
  pub pieces_of-only : (byte : ℕ) (bytes : List ℕ) → ((i : ℕ) → i < length (byte ∷ bytes) → ends (get_or (byte ∷ bytes) i 0) ≡ false) → pieces_of ends (byte ∷ bytes) ≡ (byte ∷ bytes) ∷ []
  pieces_of-only byte [] none = rw (none 0 (omega arith)) refl
  pieces_of-only byte (next ∷ bytes) none =
      rw (none 0 (omega arith), pieces_of-only next bytes (λ i h. none (suc i) (omega arith))) refl

-- blanks at the front of a line are no words
pub words_of-blanks : (k : ℕ) (line : List ℕ) → k ≤ length line → ((i : ℕ) → i < k → is_blank (get_or line i 0) ≡ true) → words_of line ≡ words_of (drop k line)
words_of-blanks zero line short blank = refl
words_of-blanks (suc k) [] short blank = refl
words_of-blanks (suc k) (byte ∷ bytes) short blank =
    rw (blank 0 (omega arith)) (words_of-blanks k bytes (omega arith) (λ i h. blank (suc i) (omega arith)))

-- so is one that stands further on
words_of-drop : (k : ℕ) (line : List ℕ) → k < length line → is_blank (get_or line k 0) ≡ true → words_of (drop k line) ≡ words_of (drop (suc k) line)
words_of-drop k [] short blank = absurd (omega arith)
words_of-drop zero (byte ∷ bytes) short blank = rw blank refl
words_of-drop (suc k) (byte ∷ bytes) short blank = words_of-drop k bytes (omega arith) blank

-- the first word of a line that begins with it
pub words_of-first : (k : ℕ) (line : List ℕ) → 0 < length line → is_blank (get_or line 0 0) ≡ false → k ≤ length line → ((i : ℕ) → i < k → is_blank (get_or line i 0) ≡ false) → (k < length line → is_blank (get_or line k 0) ≡ true) → words_of line ≡ take k line ∷ words_of (drop k line)
words_of-first k [] some first short none end = absurd (omega arith)
words_of-first zero (byte ∷ bytes) some first short none end = let both : true ≡ false = cc (end (omega arith)) in cc
words_of-first (suc k) (byte ∷ bytes) some first short none end = by (cases_lt (suc k) (length (byte ∷ bytes)))
  where
    by : (suc k < length (byte ∷ bytes)) ⊎ (length (byte ∷ bytes) ≤ suc k) → words_of (byte ∷ bytes) ≡ take (suc k) (byte ∷ bytes) ∷ words_of (drop (suc k) (byte ∷ bytes))
    by (inl inside) =
        ap (filter is_filled) (pieces_of-first is_blank (suc k) (byte ∷ bytes) inside none (end inside))
        ∙ ap (λ words. take (suc k) (byte ∷ bytes) ∷ words) (sym (words_of-drop (suc k) (byte ∷ bytes) inside (end inside)))
    by (inr outside) =
        ap (filter is_filled) (pieces_of-only is_blank byte bytes (λ i h. none i (omega arith)))
        ∙ sym (rw (take_all k bytes (omega arith), drop_all k bytes (omega arith)) refl)

-- the first piece begins with the byte that was put there
passed_over-onto_first : (byte : ℕ) (pieces : List (List ℕ)) → is_passed_over (filter is_filled (onto_first byte pieces)) ≡ (byte == 35)
passed_over-onto_first byte [] = refl
passed_over-onto_first byte (piece ∷ pieces) = refl

-- a line that begins with `#` is passed over
begun_comment : (lines : List (List ℕ)) (line : List ℕ) (rest : List (List ℕ)) → onto_first 35 lines ≡ line ∷ rest → is_passed_over (words_of line) ≡ true
begun_comment [] line rest is = let same : line ≡ 35 ∷ [] = cc in rw same refl
begun_comment (piece ∷ pieces) line rest is =
    let same : line ≡ 35 ∷ piece = cc in rw same (passed_over-onto_first 35 (pieces_of is_blank piece))

-- and the first line of a text begins as the text does
pub comment_is_passed_over : (text line : List ℕ) (rest : List (List ℕ)) → 0 < length text → get_or text 0 0 ≡ 35 → lines_of text ≡ line ∷ rest → is_passed_over (words_of line) ≡ true
comment_is_passed_over [] line rest some begins is = absurd (omega arith)
comment_is_passed_over (byte ∷ bytes) line rest some begins is =
    begun_comment (lines_of bytes) line rest (subst (λ b. lines_of (b ∷ bytes) ≡ line ∷ rest) begins is)

-- a test that isn't passed fails
fails : (b : Bool) → (b ≡ true → ⊥) → b ≡ false
fails true not_true = absurd (not_true refl)
fails false not_true = refl

-- the first line of a text ends at its first line feed
pub lines_of-first : (end : ℕ) (text : List ℕ) → NoneBefore (Passes (is_byte 10) text) 0 (length text) end × Passes (is_byte 10) text end → lines_of text ≡ take end text ∷ lines_of (drop (suc end) text)
lines_of-first end text found =
    pieces_of-first is_line_feed end text found.0.high (λ i h. fails _ (found.0.before i (omega arith) h)) found.1

-- a text without a line feed is one line
pub lines_of-only : (text : List ℕ) → 0 < length text → Nowhere (Passes (is_byte 10) text) 0 (length text) → lines_of text ≡ text ∷ []
lines_of-only [] some none = absurd (omega arith)
lines_of-only (byte ∷ bytes) some none =
    pieces_of-only is_line_feed byte bytes (λ i h. fails _ (none i (omega arith) h))

-- ---- a text with a byte has a line

-- a byte in front of pieces is in one
onto_some : (byte : ℕ) (pieces : List (List ℕ)) → onto_first byte pieces ≡ [] → ⊥
onto_some byte [] none = let no : (byte ∷ []) ∷ [] ≡ [] = none in cc
onto_some byte (piece ∷ pieces) none = let no : (byte ∷ piece) ∷ pieces ≡ [] = none in cc

-- a text with a byte in front has a piece
some_piece : (ends : Bool) (byte : ℕ) (pieces : List (List ℕ)) → (if ends then [] ∷ pieces else onto_first byte pieces) ≡ [] → ⊥
some_piece true byte pieces none = let no : [] ∷ pieces ≡ [] = none in cc
some_piece false byte pieces none = onto_some byte pieces none

-- a text that isn't empty has a line
pub some_line : (text : List ℕ) → 0 < length text → lines_of text ≡ [] → ⊥
some_line [] some none = absurd (omega arith)
some_line (byte ∷ bytes) some none = some_piece (is_line_feed byte) byte (lines_of bytes) none

-- ---- what is left of a text

-- the bytes from a place on are told by how many they are
pub left_behind : (from : ℕ) (text rest : List ℕ) → from ≤ length text → rest ≡ drop from text → rest ≡ drop (length text - length rest) text
left_behind from text rest inside is =
    let long : length rest ≡ length (drop from text) = ap length is in
    is ∙ ap (λ n. drop n text) (omega (arith, inside, long, length-drop from text))
