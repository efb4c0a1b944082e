-- Meals that are counted entry by entry.
use Rattle.std.proofs.Common.{◌≡◌, ℕ, zero, suc, ◌+◌, ◌<◌, Bool, true, false, cond, unwrap_or, Option, if◌then◌else◌, List, [], ◌∷◌, length, take, get_or, slice_get, Some, None, refl, ap, ◌∙◌, arith}
use Rattle.std.proofs.lemmas.List.Sums.{count_by_more_no, count_by_more_yes}
use Rattle.dine_words.specs.declared.task.Task.{Task}
use Rattle.dine_words.specs.declared.entry.Entry.{Entry}
use Rattle.dine_table.specs.History.{grants_meal}
use Rattle.dine_race.specs.Report.{meals_of}
use Rattle.dine_race.proofs.Setups.{some_same}
use Rattle.dine_race.proofs.Settling.{inside}

-- what is found at a place stands there
found_at : {A : Type 0} (xs : List A) (i : ℕ) (x : A) → slice_get xs i ≡ Some x → get_or xs i x ≡ x
found_at [] i x at = refl
found_at (y ∷ xs) zero x at = some_same y x at
found_at (y ∷ xs) (suc i) x at = found_at xs i x at

-- one entry more
pub meals_more : (t : Task) (es : List Entry) (i : ℕ) (e : Entry) → slice_get es i ≡ Some e → meals_of t (take (i + 1) es) ≡ (if grants_meal t e then 1 else 0) + meals_of t (take i es)
meals_more t es i e at = by (grants_meal t e) refl
  where
    by : (b : Bool) → grants_meal t e ≡ b → meals_of t (take (i + 1) es) ≡ (if grants_meal t e then 1 else 0) + meals_of t (take i es)
    by true ate =
        let one = count_by_more_yes (grants_meal t) es i e (inside es i e at) (ap (grants_meal t) (found_at es i e at) ∙ ate) in
        rw ate (omega (arith, one))
    by false not =
        let none = count_by_more_no (grants_meal t) es i e (inside es i e at) (ap (grants_meal t) (found_at es i e at) ∙ not) in
        rw not (omega (arith, none))

-- a place inside is found
pub is_found : {A : Type 0} (xs : List A) (i : ℕ) → i < length xs → None ≡ slice_get xs i → ⊥
is_found [] i low at = omega arith
is_found (x ∷ xs) zero low at = cc
is_found (x ∷ xs) (suc i) low at = is_found xs i (omega arith) at

-- a task that had no count gets its first, and the others keep theirs
pub newly_counted : (new old : Option ℕ) (same grants : Bool) → new ≡ cond same (Some 1) old → grants ≡ same → (same ≡ true → old ≡ None) → unwrap_or new 0 ≡ (if grants then 1 else 0) + unwrap_or old 0
newly_counted new old true grants is by none = rw (is, by, none refl) refl
newly_counted new old false grants is by none = rw (is, by) (omega arith)
