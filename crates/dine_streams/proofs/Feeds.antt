-- Where the lines of a text end: at its first line feed, and at its last.
use Rattle.std.proofs.Common.{◌≡◌, ℕ, zero, suc, ◌==◌, ◌+◌, ◌<◌, Bool, true, false, List, [], ◌∷◌, ◌++◌, length, get_or, take, drop, inl, inr, refl, sym, ap, ◌∙◌, append_assoc, append-nil, arith, length-drop, add-one}
use Rattle.std.proofs.lemmas.Bool.{cases_Bool}
use Rattle.std.proofs.lemmas.List.{get_or-drop, take-append-drop}
use Rattle.memchr.specs.Find.{is_byte, Passes, Nowhere, NoneAfter, NoneBefore}
use Rattle.dine_streams.specs.Lines.{begun_line, ended_lines}
use Rattle.dine_streams.proofs.Pieces.{begun-on, begun-pieces, ended-pieces}

-- a test that isn't passed fails
fails : (b : Bool) → (b ≡ true → ⊥) → b ≡ false
fails true not_true = absurd (not_true refl)
fails false not_true = refl

-- no line ends in bytes of which none is a line feed
none-ended : (begun xs : List ℕ) → ((i : ℕ) → i < length xs → (get_or xs i 0 == 10) ≡ false) → ended_lines begun xs ≡ []
none-ended begun [] none = refl
none-ended begun (x ∷ xs) none = rw (none 0 (omega arith)) (none-ended (begun ++ x ∷ []) xs (λ i h. none (suc i) (omega arith)))

-- a text without a line feed ends no line
pub none-nowhere : (begun xs : List ℕ) → Nowhere (Passes (is_byte 10) xs) 0 (length xs) → ended_lines begun xs ≡ []
none-nowhere begun xs nowhere = none-ended begun xs (λ i h. fails _ (nowhere i (omega arith) h))

-- the first line ends at the first line feed
first-ended : (k : ℕ) (begun xs : List ℕ) → k < length xs → ((i : ℕ) → i < k → (get_or xs i 0 == 10) ≡ false) → (get_or xs k 0 == 10) ≡ true → ended_lines begun xs ≡ (begun ++ take k xs) ∷ ended_lines [] (drop (suc k) xs)
first-ended k begun [] short none at = absurd (omega arith)
first-ended zero begun (x ∷ xs) short none at = rw at (ap (λ line. line ∷ ended_lines [] xs) (sym (append-nil begun)))
first-ended (suc k) begun (x ∷ xs) short none at =
    rw (none 0 (omega arith))
    (first-ended k (begun ++ x ∷ []) xs (omega arith) (λ i h. none (suc i) (omega arith)) at
    ∙ ap (λ line. line ∷ ended_lines [] (drop (suc k) xs)) (append_assoc begun (x ∷ []) (take k xs)))

-- and nothing of it has begun after that
first-begun : (k : ℕ) (begun xs : List ℕ) → k < length xs → ((i : ℕ) → i < k → (get_or xs i 0 == 10) ≡ false) → (get_or xs k 0 == 10) ≡ true → begun_line begun xs ≡ begun_line [] (drop (suc k) xs)
first-begun k begun [] short none at = absurd (omega arith)
first-begun zero begun (x ∷ xs) short none at = rw at refl
first-begun (suc k) begun (x ∷ xs) short none at =
    rw (none 0 (omega arith)) (first-begun k (begun ++ x ∷ []) xs (omega arith) (λ i h. none (suc i) (omega arith)) at)

-- the first line ends at the first line feed, and the others are those of the text after it
pub ended-at : (k : ℕ) (xs : List ℕ) → NoneBefore (Passes (is_byte 10) xs) 0 (length xs) k × Passes (is_byte 10) xs k → ended_lines [] xs ≡ take k xs ∷ ended_lines [] (drop (suc k) xs)
ended-at k xs found = first-ended k [] xs found.0.high (λ i h. fails _ (found.0.before i (omega arith) h)) found.1

-- the line that has begun behind the first line feed is that of the text after it
pub begun-at : (k : ℕ) (xs : List ℕ) → NoneBefore (Passes (is_byte 10) xs) 0 (length xs) k × Passes (is_byte 10) xs k → begun_line [] xs ≡ begun_line [] (drop (suc k) xs)
begun-at k xs found = first-begun k [] xs found.0.high (λ i h. fails _ (found.0.before i (omega arith) h)) found.1

-- nothing has begun after a line feed
none-begun : (k : ℕ) (begun xs : List ℕ) → k < length xs → (get_or xs k 0 == 10) ≡ true → begun_line begun (take (suc k) xs) ≡ []
none-begun k begun [] short at = absurd (omega arith)
none-begun zero begun (x ∷ xs) short at = rw at refl
none-begun (suc k) begun (x ∷ xs) short at = elim (cases_Bool (x == 10)) [
  | inl e ↦ rw e (none-begun k [] xs (omega arith) at)
  | inr e ↦ rw e (none-begun k (begun ++ x ∷ []) xs (omega arith) at)
]

-- nor after one that was found behind a place, in what stands there
pub ended-behind : (from k : ℕ) (xs ys : List ℕ) → ys ≡ drop from xs → NoneAfter (Passes (is_byte 10) ys) 0 (length ys) k × Passes (is_byte 10) ys k → begun_line [] (take (from + k + 1) xs) ≡ []
ended-behind from k xs ys is found =
    let here : k < length ys = found.0.high in
    let long : length ys ≡ length (drop from xs) = ap length is in
    let at : (get_or xs (from + k) 0 == 10) ≡ true = ap (λ x. x == 10) (sym (get_or-drop from xs k 0) ∙ ap (λ l. get_or l k 0) (sym is)) ∙ found.1 in
    ap (λ n. begun_line [] (take n xs)) (add-one (from + k)) ∙ none-begun (from + k) [] xs (omega (arith, here, long, length-drop from xs)) at

-- the lines are those of the first n bytes, and no line ends in the bytes after them
pub record IsSplit (xs : List ℕ) (n : ℕ) : Type 0 where
  pub ended : begun_line [] (take n xs) ≡ []
  pub none : ended_lines [] (drop n xs) ≡ []

-- the lines that a text ends are those up to its last line feed
pub split-lines : (xs : List ℕ) (n : ℕ) → IsSplit xs n → ended_lines [] (take n xs) ≡ ended_lines [] xs
split-lines xs n split =
    sym (append-nil (ended_lines [] (take n xs)))
    ∙ ap (λ more. ended_lines [] (take n xs) ++ more) (sym split.none)
    ∙ ap (λ begun. ended_lines [] (take n xs) ++ ended_lines begun (drop n xs)) (sym split.ended)
    ∙ sym (ended-pieces [] (take n xs) (drop n xs))
    ∙ ap (ended_lines []) (take-append-drop n xs)

-- the line that it begins is what stands behind that
pub split-begun : (xs : List ℕ) (n : ℕ) → IsSplit xs n → begun_line [] xs ≡ drop n xs
split-begun xs n split =
    ap (begun_line []) (sym (take-append-drop n xs))
    ∙ begun-pieces [] (take n xs) (drop n xs)
    ∙ ap (λ begun. begun_line begun (drop n xs)) split.ended
    ∙ begun-on [] (drop n xs) split.none

-- they end at the last line feed
pub split-at : (k : ℕ) (xs : List ℕ) → NoneAfter (Passes (is_byte 10) xs) 0 (length xs) k × Passes (is_byte 10) xs k → IsSplit xs (k + 1)
split-at k xs found =
    let here : k < length xs = found.0.high in
    record {
      ended = ap (λ n. begun_line [] (take n xs)) (add-one k) ∙ none-begun k [] xs here found.1;
      none = none-ended [] (drop (k + 1) xs) (λ i h. ap (λ x. x == 10) (get_or-drop (k + 1) xs i 0) ∙ fails _ (found.0.after (k + 1 + i) (omega arith) (omega (arith, length-drop (k + 1) xs))));
    }

-- a text of whole lines: what has begun before it doesn't matter
pub ended-whatever : (begun other xs : List ℕ) → 0 < length begun → begun_line begun xs ≡ [] → begun_line other xs ≡ []
ended-whatever [] other xs some is = absurd (omega arith)
ended-whatever (b ∷ begun) other [] some is = absurd (let no : b ∷ begun ≡ [] = is in cc)
ended-whatever (b ∷ begun) other (x ∷ xs) some is = elim (cases_Bool (x == 10)) [
  | inl e ↦ rw e (rw e at is)
  | inr e ↦ rw e (ended-whatever (b ∷ begun ++ x ∷ []) (other ++ x ∷ []) xs (omega arith) (rw e at is))
]

-- so is what is left of one from a place on
pub ended-left : (n : ℕ) (xs : List ℕ) → begun_line [] xs ≡ [] → begun_line [] (drop n xs) ≡ []
ended-left n xs whole = by (begun_line [] (take n xs)) (sym (begun-pieces [] (take n xs) (drop n xs)) ∙ ap (begun_line []) (take-append-drop n xs) ∙ whole)
  where
    by : (begun : List ℕ) → begun_line begun (drop n xs) ≡ [] → begun_line [] (drop n xs) ≡ []
    by [] is = is
    by (b ∷ begun) is = ended-whatever (b ∷ begun) [] (drop n xs) (omega arith) is
