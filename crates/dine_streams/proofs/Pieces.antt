-- Bytes that are heard in several pieces.
use Rattle.std.proofs.Common.{◌≡◌, ℕ, ◌==◌, List, [], ◌∷◌, ◌++◌, take, drop, inl, inr, refl, sym, ap, ◌∙◌, append_assoc, append-nil}
use Rattle.std.proofs.lemmas.Bool.{cases_Bool, eqb-true}
use Rattle.std.proofs.lemmas.List.{take-append-drop}
use Rattle.dine_streams.specs.Lines.{begun_line, ended_lines}

-- lines as a text: each with its line feed
abbrev pub text_of_lines : List (List ℕ) → List ℕ
text_of_lines [] = []
text_of_lines (line ∷ lines) = (line ++ 10 ∷ []) ++ text_of_lines lines

-- the lines that two pieces end
pub ended-pieces : (begun xs ys : List ℕ) → ended_lines begun (xs ++ ys) ≡ ended_lines begun xs ++ ended_lines (begun_line begun xs) ys
ended-pieces begun [] ys = refl
ended-pieces begun (x ∷ xs) ys = elim (cases_Bool (x == 10)) [
  | inl e ↦ rw e (ap (λ more. begun ∷ more) (ended-pieces [] xs ys))
  | inr e ↦ rw e (ended-pieces (begun ++ x ∷ []) xs ys)
]

-- the line that has begun after two pieces
pub begun-pieces : (begun xs ys : List ℕ) → begun_line begun (xs ++ ys) ≡ begun_line (begun_line begun xs) ys
begun-pieces begun [] ys = refl
begun-pieces begun (x ∷ xs) ys = elim (cases_Bool (x == 10)) [
  | inl e ↦ rw e (begun-pieces [] xs ys)
  | inr e ↦ rw e (begun-pieces (begun ++ x ∷ []) xs ys)
]

-- bytes that end no line go on with the one that has begun
pub begun-on : (begun xs : List ℕ) → ended_lines begun xs ≡ [] → begun_line begun xs ≡ begun ++ xs
begun-on begun [] none = sym (append-nil begun)
begun-on begun (x ∷ xs) none = elim (cases_Bool (x == 10)) [
  | inl e ↦ absurd (let some : begun ∷ ended_lines [] xs ≡ [] = rw e at none in cc)
  | inr e ↦ rw e (begun-on (begun ++ x ∷ []) xs (rw e at none) ∙ append_assoc begun (x ∷ []) xs)
]

-- nothing is lost: the lines, each with its line feed, and what has begun after them are the bytes
pub rejoined : (begun xs : List ℕ) → text_of_lines (ended_lines begun xs) ++ begun_line begun xs ≡ begun ++ xs
rejoined begun [] = sym (append-nil begun)
rejoined begun (x ∷ xs) = elim (cases_Bool (x == 10)) [
  | inl e ↦ rw e (append_assoc (begun ++ 10 ∷ []) (text_of_lines (ended_lines [] xs)) (begun_line [] xs) ∙ ap (λ l. (begun ++ 10 ∷ []) ++ l) (rejoined [] xs) ∙ append_assoc begun (10 ∷ []) xs ∙ ap (λ b. begun ++ b ∷ xs) (sym (eqb-true x 10 e)))
  | inr e ↦ rw e (rejoined (begun ++ x ∷ []) xs ∙ append_assoc begun (x ∷ []) xs)
]

-- no line ends in the front of bytes in which none ends
pub none-front : (n : ℕ) (begun xs : List ℕ) → ended_lines begun xs ≡ [] → ended_lines begun (take n xs) ≡ []
none-front n begun xs none = front (ended_lines begun (take n xs)) _ (sym (ended-pieces begun (take n xs) (drop n xs)) ∙ ap (ended_lines begun) (take-append-drop n xs) ∙ none)
  where
    front : (us vs : List (List ℕ)) → us ++ vs ≡ [] → us ≡ []
    front [] vs e = refl
    front (u ∷ us) vs e = absurd (let some : u ∷ (us ++ vs) ≡ [] = e in cc)
