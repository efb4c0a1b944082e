-- An entry that was put behind a history stands at the place that is the history's length.
use Rattle.std.proofs.Common.{◌≡◌, ℕ, List, [], ◌∷◌, ◌++◌, length, Some, refl, ap, ◌∙◌}
use Rattle.std.specs.Prelude.{slice_get}
use Rattle.dine_words.specs.declared.entry.Entry.{Entry}

-- the entry behind all others
last_stands : (es : List Entry) (e : Entry) → slice_get (es ++ e ∷ []) (length es) ≡ Some e
last_stands [] e = refl
last_stands (x ∷ es) e = last_stands es e

-- the same of a list and a place that are known to be these
pub stands : (es all : List Entry) (d e : Entry) (place : ℕ) → all ≡ es ++ d ∷ [] → d ≡ e → place ≡ length es → slice_get all place ≡ Some e
stands es all d e place is same at =
    ap (slice_get all) at ∙ (ap (λ l. slice_get l (length es)) is ∙ (last_stands es d ∙ ap Some same))
