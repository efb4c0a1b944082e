-- The first bytes of a number and of a text, filled up with zeros.
use Rattle.std.proofs.Common.{◌≡◌, ◌≢◌, ℕ, zero, suc, ◌+◌, ◌-◌, ◌*◌, ◌%◌, ◌^◌, ◌<◌, ◌≤◌, true, false, List, [], ◌∷◌, ◌++◌, length, take, drop, get_or, replicate, refl, sym, ap, ◌∙◌, append_assoc, arith}
use Rattle.std.proofs.lemmas.List.{get_or-take, length-take-le, replicate-append-replicate, take-append-drop, take-append-le}
use Rattle.std.proofs.lemmas.Nat.{from_le_bytes-to_le_bytes_8, le_bytes_8}
use Rattle.std.specs.Int.{from_le_bytes, to_le_bytes, w64}
use Rattle.std.specs.List.{list_all}
use Rattle.dine_lines.specs.Names.{is_name, is_name_byte}
use Rattle.dine_lines.specs.Padding.{padded}
use Rattle.dine_lines.proofs.Padded.{and_true, letters-all}

-- ---- eight bytes

-- each of eight bytes is one
eight_bytes : (a b c d e f g h : ℕ) → a < 256 → b < 256 → c < 256 → d < 256 → e < 256 → f < 256 → g < 256 → h < 256 → (i : ℕ) → get_or (a ∷ b ∷ c ∷ d ∷ e ∷ f ∷ g ∷ h ∷ []) i 0 < 256
eight_bytes a b c d e f g h ha hb hc hd he hf hg hh zero = ha
eight_bytes a b c d e f g h ha hb hc hd he hf hg hh (suc zero) = hb
eight_bytes a b c d e f g h ha hb hc hd he hf hg hh (suc (suc zero)) = hc
eight_bytes a b c d e f g h ha hb hc hd he hf hg hh (suc (suc (suc zero))) = hd
eight_bytes a b c d e f g h ha hb hc hd he hf hg hh (suc (suc (suc (suc zero)))) = he
eight_bytes a b c d e f g h ha hb hc hd he hf hg hh (suc (suc (suc (suc (suc zero))))) = hf
eight_bytes a b c d e f g h ha hb hc hd he hf hg hh (suc (suc (suc (suc (suc (suc zero)))))) = hg
eight_bytes a b c d e f g h ha hb hc hd he hf hg hh (suc (suc (suc (suc (suc (suc (suc zero))))))) = hh
eight_bytes a b c d e f g h ha hb hc hd he hf hg hh (suc (suc (suc (suc (suc (suc (suc (suc i)))))))) = omega arith

-- the low bytes of a number are the first ones, with zeros in place of the others
module _ (a b c d e f g h : ℕ) (ha : a < 256) (hb : b < 256) (hc : c < 256) (hd : d < 256) (he : e < 256) (hf : f < 256) (hg : g < 256) (hh : h < 256) where
  low_bytes : (k : ℕ) → k < 8 → to_le_bytes w64 (from_le_bytes w64 (a ∷ b ∷ c ∷ d ∷ e ∷ f ∷ g ∷ h ∷ []) % 2 ^ (8 * k)) ≡ take k (a ∷ b ∷ c ∷ d ∷ e ∷ f ∷ g ∷ h ∷ []) ++ replicate (8 - k) 0
  low_bytes zero few = le_bytes_8 (0 ∷ 0 ∷ 0 ∷ 0 ∷ 0 ∷ 0 ∷ 0 ∷ 0 ∷ []) _ refl (eight_bytes 0 0 0 0 0 0 0 0 (omega arith) (omega arith) (omega arith) (omega arith) (omega arith) (omega arith) (omega arith) (omega arith)) (omega arith)
  low_bytes (suc zero) few = le_bytes_8 (a ∷ 0 ∷ 0 ∷ 0 ∷ 0 ∷ 0 ∷ 0 ∷ 0 ∷ []) _ refl (eight_bytes a 0 0 0 0 0 0 0 ha (omega arith) (omega arith) (omega arith) (omega arith) (omega arith) (omega arith) (omega arith)) (omega arith)
  low_bytes (suc (suc zero)) few = le_bytes_8 (a ∷ b ∷ 0 ∷ 0 ∷ 0 ∷ 0 ∷ 0 ∷ 0 ∷ []) _ refl (eight_bytes a b 0 0 0 0 0 0 ha hb (omega arith) (omega arith) (omega arith) (omega arith) (omega arith) (omega arith)) (omega arith)
  low_bytes (suc (suc (suc zero))) few = le_bytes_8 (a ∷ b ∷ c ∷ 0 ∷ 0 ∷ 0 ∷ 0 ∷ 0 ∷ []) _ refl (eight_bytes a b c 0 0 0 0 0 ha hb hc (omega arith) (omega arith) (omega arith) (omega arith) (omega arith)) (omega arith)
  low_bytes (suc (suc (suc (suc zero)))) few = le_bytes_8 (a ∷ b ∷ c ∷ d ∷ 0 ∷ 0 ∷ 0 ∷ 0 ∷ []) _ refl (eight_bytes a b c d 0 0 0 0 ha hb hc hd (omega arith) (omega arith) (omega arith) (omega arith)) (omega arith)
  low_bytes (suc (suc (suc (suc (suc zero))))) few = le_bytes_8 (a ∷ b ∷ c ∷ d ∷ e ∷ 0 ∷ 0 ∷ 0 ∷ []) _ refl (eight_bytes a b c d e 0 0 0 ha hb hc hd he (omega arith) (omega arith) (omega arith)) (omega arith)
  low_bytes (suc (suc (suc (suc (suc (suc zero)))))) few = le_bytes_8 (a ∷ b ∷ c ∷ d ∷ e ∷ f ∷ 0 ∷ 0 ∷ []) _ refl (eight_bytes a b c d e f 0 0 ha hb hc hd he hf (omega arith) (omega arith)) (omega arith)
  low_bytes (suc (suc (suc (suc (suc (suc (suc zero))))))) few = le_bytes_8 (a ∷ b ∷ c ∷ d ∷ e ∷ f ∷ g ∷ 0 ∷ []) _ refl (eight_bytes a b c d e f g 0 ha hb hc hd he hf hg (omega arith)) (omega arith)
  low_bytes (suc (suc (suc (suc (suc (suc (suc (suc k)))))))) few = absurd (omega arith)

-- of the eight bytes of a number
pub first_bytes : (n k : ℕ) → n < 2 ^ 64 → k < 8 → to_le_bytes w64 (n % 2 ^ (8 * k)) ≡ take k (to_le_bytes w64 n) ++ replicate (8 - k) 0
first_bytes n k small few =
    ap (λ m. to_le_bytes w64 (m % 2 ^ (8 * k))) (sym (from_le_bytes-to_le_bytes_8 n small))
    ∙ low_bytes _ _ _ _ _ _ _ _ (omega arith) (omega arith) (omega arith) (omega arith) (omega arith) (omega arith) (omega arith) (omega arith) k few

-- ---- letters and zeros

-- the byte before a word that ends in no zero
abbrev onto : List ℕ → ℕ → List ℕ
onto (next ∷ word) byte = byte ∷ next ∷ word
onto [] zero = []
onto [] (suc byte) = suc byte ∷ []

-- the bytes without the zeros at their end
abbrev stripped : List ℕ → List ℕ
stripped [] = []
stripped (byte ∷ bytes) = onto (stripped bytes) byte

-- nothing is left of zeros
stripped-zeros : (n : ℕ) → stripped (replicate n 0) ≡ []
stripped-zeros zero = refl
stripped-zeros (suc n) = rw (stripped-zeros n) refl

-- zeros behind a word are stripped off it
stripped-append : (word : List ℕ) (n : ℕ) → stripped (word ++ replicate n 0) ≡ stripped word
stripped-append [] n = stripped-zeros n
stripped-append (byte ∷ word) n = ap (λ rest. onto rest byte) (stripped-append word n)

-- a word that ends in another byte has none
stripped-whole : (word : List ℕ) (n : ℕ) → length word ≡ suc n → get_or word n 0 ≢ 0 → stripped word ≡ word
stripped-whole [] n long last = refl
stripped-whole (zero ∷ []) zero long last = absurd (last refl)
stripped-whole (suc byte ∷ []) n long last = refl
stripped-whole (zero ∷ []) (suc n) long last = absurd (omega (arith, long))
stripped-whole (byte ∷ next ∷ word) zero long last = absurd (omega (arith, long))
stripped-whole (byte ∷ next ∷ word) (suc n) long last =
    ap (λ rest. onto rest byte) (stripped-whole (next ∷ word) n (omega (arith, long)) last)

-- nor has a name
stripped-letters : (word : List ℕ) → list_all is_name_byte word ≡ true → stripped word ≡ word
stripped-letters [] letters = refl
stripped-letters (zero ∷ word) letters = let none : false ≡ true = letters in cc
stripped-letters (suc byte ∷ []) letters = refl
stripped-letters (suc byte ∷ next ∷ word) letters =
    ap (λ rest. onto rest (suc byte)) (stripped-letters (next ∷ word) (and_true (is_name_byte (suc byte)) _ letters))

-- so the first bytes of a text that end in no zero are the name that is filled up to the same letters
pub same_word : (len : ℕ) (text name : List ℕ) → 0 < len → len ≤ length text → get_or text (len - 1) 0 ≢ 0 → is_name name ≡ true → padded (take len text) ≡ padded name → take len text ≡ name
same_word len text name some short last letters same =
    let word = take len text in
    let long : length word ≡ suc (len - 1) = omega (arith, length-take-le len text short) in
    let end : get_or word (len - 1) 0 ≢ 0 = λ none. last (sym (get_or-take len text (len - 1) 0 (omega arith)) ∙ none) in
    sym (stripped-whole word (len - 1) long end)
    ∙ sym (stripped-append word _)
    ∙ ap stripped same
    ∙ stripped-append name _
    ∙ stripped-letters name (letters-all name letters)

-- and two names are the same that are filled up to the same letters
pub same_name : (name other : List ℕ) → is_name name ≡ true → is_name other ≡ true → padded name ≡ padded other → name ≡ other
same_name name other letters other_letters same =
    sym (stripped-letters name (letters-all name letters))
    ∙ sym (stripped-append name _)
    ∙ ap stripped same
    ∙ stripped-append other _
    ∙ stripped-letters other (letters-all other other_letters)

-- ---- the first bytes of a text

-- some of the first
pub take-take : (k n : ℕ) (text : List ℕ) → k ≤ n → take k (take n text) ≡ take k text
take-take zero n text few = refl
take-take (suc k) zero text few = absurd (omega arith)
take-take (suc k) (suc n) [] few = refl
take-take (suc k) (suc n) (byte ∷ text) few = ap (λ rest. byte ∷ rest) (take-take k n text (omega arith))

-- there are none in no bytes
take-nil : (k : ℕ) → ◌≡◌ {A = List ℕ} [] (take k [])
take-nil zero = refl
take-nil (suc k) = refl

-- and those after them
take-more : (n k m : ℕ) (text : List ℕ) → m ≡ n + k → take m text ≡ take n text ++ take k (drop n text)
take-more zero k m text is = ap (λ i. take i text) (omega (arith, is))
take-more (suc n) k zero text is = absurd (omega (arith, is))
take-more (suc n) k (suc m) [] is = take-nil k
take-more (suc n) k (suc m) (byte ∷ text) is = ap (λ rest. byte ∷ rest) (take-more n k m text (omega (arith, is)))

-- eight or fewer, filled up
pub padded-few : (len : ℕ) (text : List ℕ) → len ≤ 8 → len ≤ length text → padded (take len text) ≡ (take len text ++ replicate (8 - len) 0) ++ replicate 8 0
padded-few len text few short =
    ap (λ n. take len text ++ replicate (16 - n) 0) (length-take-le len text short)
    ∙ ap (λ n. take len text ++ replicate n 0) (omega arith)
    ∙ ap (λ zeros. take len text ++ zeros) (sym (replicate-append-replicate (8 - len) 8 0))
    ∙ sym (append_assoc (take len text) (replicate (8 - len) 0) (replicate 8 0))

-- more than eight, filled up
pub padded-more : (len : ℕ) (text : List ℕ) → 8 ≤ len → len ≤ 16 → len ≤ length text → padded (take len text) ≡ take 8 text ++ (take (len - 8) (drop 8 text) ++ replicate (8 - (len - 8)) 0)
padded-more len text more most short =
    ap (λ n. take len text ++ replicate (16 - n) 0) (length-take-le len text short)
    ∙ ap (λ n. take len text ++ replicate n 0) (omega arith)
    ∙ ap (λ word. word ++ replicate (8 - (len - 8)) 0) (take-more 8 (len - 8) len text (omega arith))
    ∙ append_assoc (take 8 text) (take (len - 8) (drop 8 text)) (replicate (8 - (len - 8)) 0)

-- equal numbers begin with equal bytes
pub same_front : (k m n : ℕ) (one other : List ℕ) → k ≤ 8 → length one ≡ 8 → length other ≡ 8 → to_le_bytes w64 m ≡ take k one ++ replicate (8 - k) 0 → to_le_bytes w64 n ≡ take k other ++ replicate (8 - k) 0 → m ≡ n → take k one ≡ take k other
same_front k m n one other few eight_one eight_other is_one is_other same =
    sym (front one eight_one)
    ∙ ap (take k) (sym is_one ∙ ap (to_le_bytes w64) same ∙ is_other)
    ∙ front other eight_other
  where
    front : (bytes : List ℕ) → length bytes ≡ 8 → take k (take k bytes ++ replicate (8 - k) 0) ≡ take k bytes
    front bytes eight =
        take-append-le k (take k bytes) (replicate (8 - k) 0) (omega (arith, length-take-le k bytes (omega arith)))
        ∙ take-take k k bytes (omega arith)

-- a text begins with the word that its first eight bytes begin with
pub begins : (k : ℕ) (text eight word : List ℕ) → k ≤ 8 → eight ≡ take 8 text → take k eight ≡ take k word → text ≡ take k word ++ drop k text
begins k text eight word few is same =
    sym (take-append-drop k text)
    ∙ ap (λ front. front ++ drop k text) (sym (take-take k 8 text few) ∙ ap (take k) (sym is) ∙ same)

-- the byte there, and those after it
pub drop-next : (k byte : ℕ) (text : List ℕ) → k < length text → get_or text k 0 ≡ byte → drop k text ≡ byte ∷ drop (suc k) text
drop-next k byte [] short at = absurd (omega arith)
drop-next zero byte (first ∷ text) short at = ap (λ b. b ∷ text) at
drop-next (suc k) byte (first ∷ text) short at = drop-next k byte text (omega arith) at
