-- Lines of the usual form: where such a line ends in a text, and what its words are.
use Rattle.std.proofs.Common.{◌≡◌, ℕ, codes, ◌+◌, Bool, true, false, not, List, [], ◌∷◌, ◌++◌, length, length-append, append_assoc, ◌<◌, Option, refl, sym, ap, ◌∙◌, arith}
use Rattle.std.proofs.lemmas.Bool.Decides.{nat_tests}
use Rattle.std.specs.List.{filter, list_all}
use Rattle.dine_words.specs.declared.call_word.CallOnOne.{CallOnOne}
use Rattle.dine_words.specs.declared.call_word.CallOnOne.TheVariants as one
use Rattle.dine_words.specs.declared.task.Task.{Task}
use Rattle.dine_words.specs.declared.call_word.CallOnTwo.{CallOnTwo}
use Rattle.dine_words.specs.declared.call_word.CallOnTwo.TheVariants as two
use Rattle.dine_words.specs.CallWords.{join_word, word_on_one, word_on_two}
use Rattle.dine_lines.specs.Usual.{Usual}
use Rattle.dine_lines.specs.Usual as usual
use Rattle.dine_lines.specs.UsualLines.{BeginsBound, BeginsName, BeginsOne, BeginsTwo, BeginsUsual, IsFreeName, IsUsualLine, NamesOne}
use Rattle.dine_lines.specs.Lines.{is_blank, is_filled, is_line_feed, lines_of, pieces_of, words_of}
use Rattle.dine_lines.specs.Names.{Names, is_name, is_name_byte}
use Rattle.dine_lines.proofs.Padded.{and_first, and_true, both_true, letters-all}

module _ (ends : ℕ → Bool) where
  -- none of the bytes passes the test
  abbrev pub is_within : List ℕ → Bool
  is_within bytes = list_all (λ byte. not (ends byte)) bytes

  -- a byte that isn't passed fails
  fails : (b : Bool) → not b ≡ true → b ≡ false
  fails true passed = let none : false ≡ true = passed in cc
  fails false passed = refl

  -- a piece without such a byte ends where one comes
  pub pieces_of-append : (piece rest : List ℕ) (byte : ℕ) → is_within piece ≡ true → ends byte ≡ true → pieces_of ends (piece ++ byte ∷ rest) ≡ piece ∷ pieces_of ends rest
  pieces_of-append [] rest byte within at = rw at refl
  pieces_of-append (first ∷ piece) rest byte within at =
      rw (fails (ends first) (and_first (not (ends first)) (is_within piece) within), pieces_of-append piece rest byte (and_true (not (ends first)) (is_within piece) within) at) refl

  -- and where the text ends
  pub pieces_of-whole : (first : ℕ) (piece : List ℕ) → is_within (first ∷ piece) ≡ true → pieces_of ends (first ∷ piece) ≡ (first ∷ piece) ∷ []
  pieces_of-whole first [] within = rw (fails (ends first) (and_first (not (ends first)) true within)) refl
  pieces_of-whole first (next ∷ piece) within =
      rw (fails (ends first) (and_first (not (ends first)) (is_within (next ∷ piece)) within), pieces_of-whole next piece (and_true (not (ends first)) (is_within (next ∷ piece)) within)) refl

-- a letter is no line feed
letter_in_line : (byte : ℕ) → is_name_byte byte ≡ true → not (is_line_feed byte) ≡ true
letter_in_line byte letter = grind (arith, nat_tests)

-- and no blank
letter_in_word : (byte : ℕ) → is_name_byte byte ≡ true → not (is_blank byte) ≡ true
letter_in_word byte letter = grind (arith, nat_tests)

-- what holds of each letter holds of all letters of a name
letters_within : (ends : ℕ → Bool) → ((byte : ℕ) → is_name_byte byte ≡ true → not (ends byte) ≡ true) → (name : List ℕ) → list_all is_name_byte name ≡ true → is_within ends name ≡ true
letters_within ends each [] letters = refl
letters_within ends each (byte ∷ name) letters =
    both_true _ _ (each byte (and_first _ _ letters)) (letters_within ends each name (and_true _ _ letters))

-- two pieces without such a byte are one
pub within-append : (ends : ℕ → Bool) (one other : List ℕ) → is_within ends one ≡ true → is_within ends other ≡ true → is_within ends (one ++ other) ≡ true
within-append ends [] other h g = g
within-append ends (byte ∷ one) other h g =
    both_true _ _ (and_first _ _ h) (within-append ends one other (and_true _ _ h) g)

-- a word and a name have no line feed
word_in_line : (word name : List ℕ) → is_within is_line_feed word ≡ true → is_name name ≡ true → is_within is_line_feed (word ++ 32 ∷ name) ≡ true
word_in_line word name within letters =
    within-append is_line_feed word (32 ∷ name) within (letters_within is_line_feed letter_in_line name (letters-all name letters))

-- the words of calls have none
one_in_line : (asked : CallOnOne) → is_within is_line_feed (word_on_one asked) ≡ true
one_in_line one.Leave = refl
one_in_line one.Hungry = refl
one_in_line one.Begin = refl
one_in_line one.Finish = refl
one_in_line one.Withdraw = refl

-- the words of calls about two tasks have no line feed
two_in_line : (asked : CallOnTwo) → is_within is_line_feed (word_on_two asked) ≡ true
two_in_line two.Conflict = refl
two_in_line two.Separate = refl

-- so a usual line has none
usual_in_line : (names : Names) (asked : Usual) (line : List ℕ) → IsUsualLine names asked line → is_within is_line_feed line ≡ true
usual_in_line names (usual.OnOne asked t) line u =
    ap (is_within is_line_feed) u.is ∙ word_in_line (word_on_one asked) u.name (one_in_line asked) u.letters
usual_in_line names (usual.OnTwo asked t v) line u =
    ap (is_within is_line_feed) u.is
    ∙ word_in_line (word_on_two asked ++ 32 ∷ u.first) u.second (word_in_line (word_on_two asked) u.first (two_in_line asked) u.first_letters) u.second_letters
usual_in_line names (usual.State t) line u =
    ap (is_within is_line_feed) u.is ∙ word_in_line (codes "state") u.name refl u.letters
usual_in_line names (usual.Neighbours t) line u =
    ap (is_within is_line_feed) u.is ∙ word_in_line (codes "neighbours") u.name refl u.letters
usual_in_line names (usual.Join name) line u =
    ap (is_within is_line_feed) u.is ∙ word_in_line join_word name refl u.free.letters

-- something is left after it
pub rest_is_shorter : (names : Names) (asked : Usual) (text rest : List ℕ) → BeginsUsual names asked text rest → length rest < length text
rest_is_shorter names asked text rest found =
    let long : length text ≡ length found.line + length (10 ∷ rest) = ap length found.is ∙ length-append found.line (10 ∷ rest) in
    omega (arith, long)

-- a usual line is the first line of the text that begins with it
pub lines_of-begun : (names : Names) (asked : Usual) (text rest : List ℕ) (found : BeginsUsual names asked text rest) → lines_of text ≡ found.line ∷ lines_of rest
lines_of-begun names asked text rest found =
    ap lines_of found.is
    ∙ pieces_of-append is_line_feed found.line rest 10 (usual_in_line names asked found.line found.usual) refl

-- ---- the words of usual lines

-- a name is one word
words_of-name : (name : List ℕ) → is_name name ≡ true → words_of name ≡ name ∷ []
words_of-name [] letters = let none : false ≡ true = letters in cc
words_of-name (byte ∷ name) letters =
    rw (pieces_of-whole is_blank byte name (letters_within is_blank letter_in_word (byte ∷ name) (letters-all (byte ∷ name) letters))) refl

-- a word before a blank is one
pub words_of-word : (word rest : List ℕ) → is_filled word ≡ true → is_within is_blank word ≡ true → words_of (word ++ 32 ∷ rest) ≡ word ∷ words_of rest
words_of-word [] rest filled within = let none : false ≡ true = filled in cc
words_of-word (byte ∷ word) rest filled within =
    ap (filter is_filled) (pieces_of-append is_blank (byte ∷ word) rest 32 within refl)

-- so is a name
words_of-named : (name rest : List ℕ) → is_name name ≡ true → words_of (name ++ 32 ∷ rest) ≡ name ∷ words_of rest
words_of-named [] rest letters = let none : false ≡ true = letters in cc
words_of-named (byte ∷ name) rest letters =
    words_of-word (byte ∷ name) rest refl (letters_within is_blank letter_in_word (byte ∷ name) (letters-all (byte ∷ name) letters))

-- the words of a line that names one task
pub words_of-one : (word name : List ℕ) → is_filled word ≡ true → is_within is_blank word ≡ true → is_name name ≡ true → words_of (word ++ 32 ∷ name) ≡ word ∷ name ∷ []
words_of-one word name filled within letters =
    words_of-word word name filled within ∙ ap (λ words. word ∷ words) (words_of-name name letters)

-- and of one that names two
pub words_of-two : (word first second : List ℕ) → is_filled word ≡ true → is_within is_blank word ≡ true → is_name first ≡ true → is_name second ≡ true → words_of (word ++ 32 ∷ first ++ 32 ∷ second) ≡ word ∷ first ∷ second ∷ []
words_of-two word first second filled within letters other_letters =
    ap words_of (append_assoc word (32 ∷ first) (32 ∷ second))
    ∙ words_of-word word (first ++ 32 ∷ second) filled within
    ∙ ap (λ words. word ∷ words) (words_of-named first second letters ∙ ap (λ words. first ∷ words) (words_of-name second other_letters))

-- ---- usual lines, from their parts

-- one that names a bound task
pub begins-one : (names : Names) (word : List ℕ) (t : Task) (text named rest : List ℕ) → text ≡ word ++ 32 ∷ named → BeginsBound names named 10 t rest → (line : List ℕ) × NamesOne names word t line × (text ≡ line ++ 10 ∷ rest)
begins-one names word t text named rest is found = (
  word ++ 32 ∷ found.name,
  record { name = found.name; letters = found.letters; bound = found.bound; is = refl },
  is ∙ ap (λ l. word ++ 32 ∷ l) found.is ∙ sym (append_assoc word (32 ∷ found.name) (10 ∷ rest)),
)

-- one with a name that is bound or free
pub begins-named : (names : Names) (word : List ℕ) (found : Option Task) (text named rest : List ℕ) → text ≡ word ++ 32 ∷ named → BeginsName names named 10 found rest → BeginsOne names word found text rest
begins-named names word found text named rest is begun = record { name = begun.name; letters = begun.letters; named = begun.named; is = is ∙ ap (λ l. word ++ 32 ∷ l) begun.is ∙ sym (append_assoc word (32 ∷ begun.name) (10 ∷ rest)) }

-- the first line of a text of a word and a name
pub lines_of-one : (word name rest text : List ℕ) → is_within is_line_feed word ≡ true → is_name name ≡ true → text ≡ word ++ 32 ∷ name ++ 10 ∷ rest → lines_of text ≡ (word ++ 32 ∷ name) ∷ lines_of rest
lines_of-one word name rest text within letters is =
    ap lines_of is
    ∙ pieces_of-append is_line_feed (word ++ 32 ∷ name) rest 10 (word_in_line word name within letters) refl

-- two names and a line feed stand after a word
two_text : (word first second rest : List ℕ) → word ++ 32 ∷ (first ++ 32 ∷ (second ++ 10 ∷ rest)) ≡ word ++ 32 ∷ first ++ 32 ∷ second ++ 10 ∷ rest
two_text word first second rest =
    sym (append_assoc (word ++ 32 ∷ first) (32 ∷ second) (10 ∷ rest) ∙ append_assoc word (32 ∷ first) (32 ∷ (second ++ 10 ∷ rest)))

-- one with two such names
pub begins-pair : (names : Names) (word : List ℕ) (one other : Option Task) (text named more rest : List ℕ) → text ≡ word ++ 32 ∷ named → BeginsName names named 32 one more → BeginsName names more 10 other rest → BeginsTwo names word one other text rest
begins-pair names word one other text named more rest is first second = record {
  first = first.name;
  second = second.name;
  first_letters = first.letters;
  second_letters = second.letters;
  first_named = first.named;
  second_named = second.named;
  is = is ∙ ap (λ l. word ++ 32 ∷ l) (first.is ∙ ap (λ l. first.name ++ 32 ∷ l) second.is) ∙ two_text word first.name second.name rest;
}

-- the first line of a text of a word and two names
pub lines_of-two : (word first second rest text : List ℕ) → is_within is_line_feed word ≡ true → is_name first ≡ true → is_name second ≡ true → text ≡ word ++ 32 ∷ first ++ 32 ∷ second ++ 10 ∷ rest → lines_of text ≡ (word ++ 32 ∷ first ++ 32 ∷ second) ∷ lines_of rest
lines_of-two word first second rest text within letters other_letters is =
    ap lines_of is
    ∙ pieces_of-append is_line_feed (word ++ 32 ∷ first ++ 32 ∷ second) rest 10 (word_in_line (word ++ 32 ∷ first) second (word_in_line word first within letters) other_letters) refl

-- one that names two
pub begins-two : (names : Names) (asked : CallOnTwo) (t u : Task) (text named more rest : List ℕ) → text ≡ word_on_two asked ++ 32 ∷ named → BeginsBound names named 32 t more → BeginsBound names more 10 u rest → BeginsUsual names (usual.OnTwo asked t u) text rest
begins-two names asked t u text named more rest is one other =
    let word = word_on_two asked in
    record {
      line = word ++ 32 ∷ one.name ++ 32 ∷ other.name;
      usual = record { first = one.name; second = other.name; first_letters = one.letters; second_letters = other.letters; first_bound = one.bound; second_bound = other.bound; is = refl };
      is = is ∙ ap (λ l. word ++ 32 ∷ l) (one.is ∙ ap (λ l. one.name ++ 32 ∷ l) other.is) ∙ two_text word one.name other.name rest;
    }

-- one that names a free one
pub begins-free : (names : Names) (name text named rest : List ℕ) → text ≡ join_word ++ 32 ∷ named → IsFreeName names name → named ≡ name ++ 10 ∷ rest → BeginsUsual names (usual.Join name) text rest
begins-free names name text named rest is free named_is =
    record {
      line = join_word ++ 32 ∷ name;
      usual = record { free = free; is = refl };
      is = is ∙ ap (λ l. join_word ++ 32 ∷ l) named_is ∙ sym (append_assoc join_word (32 ∷ name) (10 ∷ rest));
    }
