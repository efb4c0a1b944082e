-- Lines of a report, one after the other.
use Rattle.std.proofs.Common.{◌≡◌, ℕ, zero, suc, ◌+◌, List, map, [], ◌∷◌, ◌++◌, slice_get, take, Some, None, sym, ap, ◌∙◌, append_assoc, append-nil, add-one}
use Rattle.std.proofs.lemmas.Grind.{flat_map-append}
use Rattle.dine_words.specs.Texts.{text_of_lines}
use Rattle.dine_race.proofs.Setups.{some_same}

-- nothing is no value
none_is_not_some : {A : Type 0} (x : A) → None ≡ Some x → ⊥
none_is_not_some x e = cc

-- the lines up to one place further have one line more
next_line : {A : Type 0} (line_of : A → List ℕ) (xs : List A) (i : ℕ) (x : A) → slice_get xs i ≡ Some x → text_of_lines (map line_of (take (suc i) xs)) ≡ text_of_lines (map line_of (take i xs)) ++ (line_of x ++ 10 ∷ [])
next_line line_of [] i x at = absurd (none_is_not_some x at)
next_line line_of (y ∷ xs) zero x at = append-nil (line_of y ++ 10 ∷ []) ∙ ap (λ z. line_of z ++ 10 ∷ []) (some_same y x at)
next_line line_of (y ∷ xs) (suc i) x at =
    ap (λ text. (line_of y ++ 10 ∷ []) ++ text) (next_line line_of xs i x at)
    ∙ sym (append_assoc (line_of y ++ 10 ∷ []) (text_of_lines (map line_of (take i xs))) (line_of x ++ 10 ∷ []))

-- one line more
pub one_line_more : {A : Type 0} (line_of : A → List ℕ) (xs : List A) (i : ℕ) (x : A) (before now start : List ℕ) → slice_get xs i ≡ Some x
    → before ≡ start ++ text_of_lines (map line_of (take i xs)) → now ≡ before ++ line_of x ++ 10 ∷ [] → now ≡ start ++ text_of_lines (map line_of (take (i + 1) xs))
one_line_more line_of xs i x before now start at so_far pushed =
    let line : List ℕ = line_of x ++ 10 ∷ [] in
    pushed ∙ append_assoc before (line_of x) (10 ∷ []) ∙ ap (λ text. text ++ line) so_far
    ∙ append_assoc start (text_of_lines (map line_of (take i xs))) line
    ∙ ap (λ text. start ++ text) (sym (next_line line_of xs i x at))
    ∙ ap (λ (n : ℕ). start ++ text_of_lines (map line_of (take n xs))) (sym (add-one i))

-- a line of a label and a number is one text, and a line feed
pub labelled : (before label number after : List ℕ) → after ≡ before ++ label ++ number ++ 10 ∷ [] → after ≡ before ++ (label ++ number) ++ 10 ∷ []
labelled before label number after pushed = pushed ∙ ap (λ text. text ++ 10 ∷ []) (append_assoc before label number)

-- a report: two lines, then others, and a last one
pub reported : (start a b c out : List ℕ) (lines : List (List ℕ)) (first second last : List ℕ)
    → a ≡ start ++ first ++ 10 ∷ [] → b ≡ a ++ second ++ 10 ∷ [] → c ≡ b ++ text_of_lines lines → out ≡ c ++ last ++ 10 ∷ []
    → out ≡ start ++ text_of_lines (first ∷ second ∷ (lines ++ last ∷ []))
reported start a b c out lines first second last one two more end =
    let f : List ℕ = first ++ 10 ∷ [] in
    let s : List ℕ = second ++ 10 ∷ [] in
    let l : List ℕ = last ++ 10 ∷ [] in
    let rest : text_of_lines (lines ++ last ∷ []) ≡ text_of_lines lines ++ l = flat_map-append _ lines (last ∷ []) ∙ ap (λ text. text_of_lines lines ++ text) (append-nil l) in
    let one' : a ≡ start ++ f = one ∙ append_assoc start first (10 ∷ []) in
    let two' : b ≡ start ++ f ++ s = two ∙ append_assoc a second (10 ∷ []) ∙ ap (λ text. text ++ s) one' in
    end ∙ append_assoc c last (10 ∷ []) ∙ ap (λ text. text ++ l) (more ∙ ap (λ text. text ++ text_of_lines lines) two')
    ∙ append_assoc (start ++ f ++ s) (text_of_lines lines) l
    ∙ ap (λ text. start ++ f ++ s ++ text) (sym rest)
    ∙ append_assoc (start ++ f) s (text_of_lines (lines ++ last ∷ []))
    ∙ append_assoc start f (s ++ text_of_lines (lines ++ last ∷ []))
