-- A name is found again in its padding.
use Rattle.std.proofs.Common.{◌≡◌, ℕ, zero, suc, ◌-◌, ◌<◌, ◌≤◌, Bool, true, false, ◌&&◌, List, [], ◌∷◌, ◌++◌, length, take, drop, get_or, nat_eq, ◌^◌, slice_set, replicate, refl, sym, ap, ◌∙◌, inl, inr, arith}
use Rattle.std.proofs.lemmas.Bool.{cases_Bool}
use Rattle.std.proofs.lemmas.Bool.Decides.{Decides-and, Decides-eqb, nat_tests}
use Rattle.std.proofs.lemmas.List.{length-take-le}
use Rattle.std.proofs.lemmas.Nat.{from_le_bytes-to_le_bytes_8}
use Rattle.std.proofs.lemmas.Slice.Eq.{bytes_eq-Decides}
use Rattle.std.specs.Bool.{one_answer}
use Rattle.std.specs.Int.{from_le_bytes, to_le_bytes, w64}
use Rattle.std.specs.List.{list_all}
use Rattle.std.specs.Str.{bytes_eq}
use Rattle.dine_lines.specs.Names.{begins_name, is_name, is_name_byte}
use Rattle.dine_lines.specs.Padding.{AreFront, padded, word_in}

-- where both hold, the second does
pub and_true : (a b : Bool) → (a && b) ≡ true → b ≡ true
and_true true b h = h
and_true false b h = let none : false ≡ true = h in cc

-- and the first does
pub and_first : (a b : Bool) → (a && b) ≡ true → a ≡ true
and_first true b h = refl
and_first false b h = let none : false ≡ true = h in cc

-- both hold
pub both_true : (a b : Bool) → a ≡ true → b ≡ true → (a && b) ≡ true
both_true true b ha hb = hb
both_true false b ha hb = ha

-- there is no word in zeros alone
word_in-zeros : (n : ℕ) → word_in (replicate n 0) ≡ []
word_in-zeros zero = refl
word_in-zeros (suc n) = refl

-- letters are what stands before the zeros after them
word_in-append : (word : List ℕ) (n : ℕ) → list_all is_name_byte word ≡ true → word_in (word ++ replicate n 0) ≡ word
word_in-append [] n letters = word_in-zeros n
word_in-append (zero ∷ word) n letters = let none : false ≡ true = letters in cc
word_in-append (suc byte ∷ word) n letters =
    ap (λ rest. suc byte ∷ rest) (word_in-append word n (and_true (is_name_byte (suc byte)) _ letters))

-- a name is found again in its padding
found_again : (word : List ℕ) → list_all is_name_byte word ≡ true → word_in (padded word) ≡ word
found_again word letters = word_in-append word (16 - length word) letters

-- so it is in what its padding is kept in
pub found_in : (letters word : List ℕ) → letters ≡ padded word → list_all is_name_byte word ≡ true → word_in letters ≡ word
found_in letters word kept all = ap word_in kept ∙ found_again word all

-- the first letters of a word, filled up with zeros to so many
abbrev pub filled : ℕ → ℕ → List ℕ → List ℕ
filled zero room word = replicate room 0
filled (suc count) zero word = []
filled (suc count) (suc room) [] = replicate (suc room) 0
filled (suc count) (suc room) (byte ∷ word) = byte ∷ filled count room word

-- one more letter goes to its place
pub filled-set : (count room : ℕ) (word : List ℕ) → count < length word → count < room → slice_set (filled count room word) count (get_or word count 0) ≡ filled (suc count) room word
filled-set count room [] short fits = absurd (omega arith)
filled-set count zero (byte ∷ word) short fits = absurd (omega arith)
filled-set zero (suc room) (byte ∷ word) short fits = refl
filled-set (suc count) (suc room) (byte ∷ word) short fits =
    ap (λ letters. byte ∷ letters) (filled-set count room word (omega arith) (omega arith))

-- those letters, padded
pub filled-take : (count room : ℕ) (word : List ℕ) → count ≤ length word → count ≤ room → filled count room word ≡ take count word ++ replicate (room - length (take count word)) 0
filled-take zero room word short fits = ap (λ n. replicate n 0) (omega arith)
filled-take (suc count) zero word short fits = absurd (omega arith)
filled-take (suc count) (suc room) [] short fits = absurd (omega arith)
filled-take (suc count) (suc room) (byte ∷ word) short fits =
    ap (λ letters. byte ∷ letters) (filled-take count room word (omega arith) (omega arith) ∙ ap (λ n. take count word ++ replicate n 0) (omega arith))

-- one more byte that may stand in a name
pub letters-next : (count : ℕ) (word : List ℕ) → count < length word → list_all is_name_byte (take count word) ≡ true → is_name_byte (get_or word count 0) ≡ true → list_all is_name_byte (take (suc count) word) ≡ true
letters-next count [] short letters letter = absurd (omega arith)
letters-next zero (byte ∷ word) short letters letter = rw letter refl
letters-next (suc count) (byte ∷ word) short letters letter =
    both_true (is_name_byte byte) _ (and_first _ _ letters) (letters-next count word (omega arith) (and_true _ _ letters) letter)

-- so many letters are a name
pub is_name-from : (word : List ℕ) → 0 < length word → length word ≤ 16 → list_all is_name_byte word ≡ true → is_name word ≡ true
is_name-from word some few letters = grind (arith, nat_tests)

-- each letter of a name may stand in it
pub letters-all : (word : List ℕ) → is_name word ≡ true → list_all is_name_byte word ≡ true
letters-all word name = and_true _ _ name

-- eight bytes of a number tell it
eight_tell : (m n : ℕ) → m < 2 ^ 64 → n < 2 ^ 64 → to_le_bytes w64 m ≡ to_le_bytes w64 n → m ≡ n
eight_tell m n small_m small_n same =
    sym (from_le_bytes-to_le_bytes_8 m small_m) ∙ ap (from_le_bytes w64) same ∙ from_le_bytes-to_le_bytes_8 n small_n

module _ (a b m n : ℕ) (small_a : a < 2 ^ 64) (small_b : b < 2 ^ 64) (small_m : m < 2 ^ 64) (small_n : n < 2 ^ 64) (one other : List ℕ) (is_one : padded one ≡ to_le_bytes w64 a ++ to_le_bytes w64 b) (is_other : padded other ≡ to_le_bytes w64 m ++ to_le_bytes w64 n) where
  -- equal numbers have equal letters
  same_letters : (a ≡ m) × (b ≡ n) → padded one ≡ padded other
  same_letters same = is_one ∙ rw (same.0, same.1) (sym is_other)

  -- and equal letters equal numbers
  same_numbers : padded one ≡ padded other → (a ≡ m) × (b ≡ n)
  same_numbers same =
      let bytes : to_le_bytes w64 a ++ to_le_bytes w64 b ≡ to_le_bytes w64 m ++ to_le_bytes w64 n = sym is_one ∙ same ∙ is_other in
      (eight_tell a m small_a small_m (ap (take 8) bytes), eight_tell b n small_b small_n (ap (drop 8) bytes))

  -- two names are the same where both numbers of their letters are
  pub same_halves : is_name one ≡ true → is_name other ≡ true → (nat_eq a m && nat_eq b n) ≡ bytes_eq one other
  same_halves name_one name_other =
      one_answer _ _ (Decides-and (nat_eq a m) (nat_eq b n) (Decides-eqb a m) (Decides-eqb b n)) (numbers, words)
    where
      numbers : bytes_eq one other ≡ true → (a ≡ m) × (b ≡ n)
      numbers same = same_numbers (ap padded ((bytes_eq-Decides one other).0 same))

      words : (a ≡ m) × (b ≡ n) → bytes_eq one other ≡ true
      words same =
          (bytes_eq-Decides one other).1
          (sym (found_again one (letters-all one name_one))
          ∙ ap word_in (same_letters same)
          ∙ found_again other (letters-all other name_other))

-- the word is what stands before the first zero
pub word_in-first : (k : ℕ) (letters : List ℕ) → k ≤ length letters → ((i : ℕ) → i < k → get_or letters i 0 ≡ 0 → ⊥) → (k < length letters → get_or letters k 0 ≡ 0) → word_in letters ≡ take k letters
word_in-first zero [] short before end = refl
word_in-first (suc k) [] short before end = absurd (omega arith)
word_in-first zero (zero ∷ letters) short before end = refl
word_in-first zero (suc byte ∷ letters) short before end = absurd (omega (arith, end (omega arith)))
word_in-first (suc k) (zero ∷ letters) short before end = absurd (before 0 (omega arith) refl)
word_in-first (suc k) (suc byte ∷ letters) short before end =
    ap (λ rest. suc byte ∷ rest) (word_in-first k letters (omega arith) (λ i low. before (suc i) (omega arith)) (λ low. end (omega arith)))

-- the word of the letters at the front of a text
pub word-front : (text letters : List ℕ) (len : ℕ) → AreFront text letters len → word_in letters ≡ take len text
word-front text letters len front = found_in letters (take len text) front.letters front.all

-- it is a name, where there are any
pub is_name-front : (text letters : List ℕ) (len : ℕ) → 0 < len → AreFront text letters len → is_name (take len text) ≡ true
is_name-front text letters len some front =
    let long : length (take len text) ≡ len = length-take-le len text front.bound in
    is_name-from (take len text) (omega (arith, long)) (omega (arith, long, front.most)) front.all

-- each place of a word of letters begins with a letter
letter_at : (count len : ℕ) (text : List ℕ) → count < len → len ≤ length text → list_all is_name_byte (take len text) ≡ true → begins_name (drop count text) ≡ true
letter_at count zero text less short letters = absurd (omega arith)
letter_at count (suc len) [] less short letters = absurd (omega arith)
letter_at zero (suc len) (byte ∷ text) less short letters = and_first _ _ letters
letter_at (suc count) (suc len) (byte ∷ text) less short letters =
    letter_at count len text (omega arith) (omega arith) (and_true (is_name_byte byte) _ letters)

-- a word is short that is a name
name_few : (word : List ℕ) → is_name word ≡ true → length word ≤ 16
name_few word name = grind (arith, nat_tests)

-- a word with more bytes than it has letters at its front is no name
pub is_name-beyond : (text letters : List ℕ) (count len : ℕ) → count < len → len ≤ length text → AreFront text letters count → is_name (take len text) ≡ false
is_name-beyond text letters count len less short front = elim (cases_Bool (is_name (take len text))) [
  | inl name ↦
      let word : List ℕ = take len text in
      let few = name_few word name in
      let long : length word ≡ len = length-take-le len text short in
      let here : begins_name (drop count text) ≡ true = letter_at count len text less short (letters-all word name) in
      let end : begins_name (drop count text) ≡ false = front.end (omega (arith, few, long, less)) in
      let none : true ≡ false = sym here ∙ end in cc
  | inr other ↦ other
]
