-- What is written for a text ends nothing that it stands in, byte by byte.
use Rattle.std.proofs.Common.{◌≡◌, ℕ, ◌==◌, Bool, true, false, List, [], ◌∷◌, ◌++◌, codes, if◌then◌else◌, refl}
use Rattle.dine_chart.specs.declared.escape.Setting.TheVariants.{Dot, Json, Markup}
use Rattle.dine_chart.specs.Escapes.{in_quotes, is_control, is_inert, is_quotable, text_in}

-- by the answers of the tests
inert_by : (b : ℕ) (rest : List ℕ) (amp less more double single control : Bool)
    → (b == 38) ≡ amp → (b == 60) ≡ less → (b == 62) ≡ more → (b == 34) ≡ double → (b == 39) ≡ single → is_inert rest ≡ true
    → is_inert ((if amp then codes "&amp;" else if less then codes "&lt;" else if more then codes "&gt;" else if double then codes "&quot;" else if single then codes "&#39;" else if control then codes "?" else b ∷ []) ++ rest) ≡ true
inert_by b rest true less more double single control a l m d s ok = ok
inert_by b rest false true more double single control a l m d s ok = ok
inert_by b rest false false true double single control a l m d s ok = ok
inert_by b rest false false false true single control a l m d s ok = ok
inert_by b rest false false false false true control a l m d s ok = ok
inert_by b rest false false false false false true a l m d s ok = ok
inert_by b rest false false false false false false a l m d s ok = rw (a, l, m, d, s) ok

-- what is written in markup
pub inert : (text : List ℕ) → is_inert (text_in Markup text) ≡ true
inert [] = refl
inert (b ∷ bs) = inert_by b (text_in Markup bs) (b == 38) (b == 60) (b == 62) (b == 34) (b == 39) (is_control b) refl refl refl refl refl (inert bs)

-- by the answers of the tests
quotable_by : (b : ℕ) (rest : List ℕ) (double back control : Bool)
    → (b == 34) ≡ double → (b == 92) ≡ back → is_control b ≡ control → is_quotable false rest ≡ true
    → is_quotable false ((if double then codes "\\\"" else if back then codes "\\\\" else if control then codes "?" else b ∷ []) ++ rest) ≡ true
quotable_by b rest true back control d s c ok = ok
quotable_by b rest false true control d s c ok = ok
quotable_by b rest false false true d s c ok = ok
quotable_by b rest false false false d s c ok = rw (d, s, c) ok

-- a byte in quotes ends no text, in front of one that ends none
quotable_byte : (b : ℕ) (rest : List ℕ) → is_quotable false rest ≡ true → is_quotable false (in_quotes b ++ rest) ≡ true
quotable_byte b rest ok = quotable_by b rest (b == 34) (b == 92) (is_control b) refl refl refl ok

-- what is written between quotes
pub quotable : (text : List ℕ) → is_quotable false (text_in Json text) ≡ true
quotable [] = refl
quotable (b ∷ bs) = quotable_byte b (text_in Json bs) (quotable bs)

-- nor does one in a label of a graph
dot_by : (b : ℕ) (rest : List ℕ) (amp : Bool) → is_quotable false rest ≡ true → is_quotable false ((if amp then codes "&amp;" else in_quotes b) ++ rest) ≡ true
dot_by b rest true ok = ok
dot_by b rest false ok = quotable_byte b rest ok

-- what is written between quotes of DOT
pub quotable-dot : (text : List ℕ) → is_quotable false (text_in Dot text) ≡ true
quotable-dot [] = refl
quotable-dot (b ∷ bs) = dot_by b (text_in Dot bs) (b == 38) (quotable-dot bs)
