-- Facts on each element, and elements that differ, in a list that is filtered or grows.
use Rattle.std.proofs.Common.{◌≡◌, ℕ, ◌+◌, ◌≤◌, ◌<◌, zero, suc, Bool, true, false, List, [], ◌∷◌, ◌++◌, length, Some, inl, inr, refl, ap, arith}
use Rattle.std.specs.Prelude.{slice_get, slice_set}
use Rattle.std.specs.List.{AllByRecursion, AllPairs, IsDistinct, filter, list_any}
use Rattle.std.proofs.lemmas.Bool.{cases_Bool, or_from, or_parts}
use Rattle.std.proofs.lemmas.List.Elements.{All-from_recursion}
use Rattle.std.proofs.lemmas.Map.Keys.{IsDistinct-head, IsDistinct-tail, IsDistinct-cons}

-- ---- each element

-- what holds of each element holds of each that a filter leaves
pub AllByRecursion-filter : {X : Type 0} (P : X → Type 0) (p : X → Bool) (xs : List X) → AllByRecursion P xs → AllByRecursion P (filter p xs)
AllByRecursion-filter P p [] h = tt
AllByRecursion-filter P p (x ∷ xs) h = elim (cases_Bool (p x)) [
  | inl e ↦ rw e (h.0, AllByRecursion-filter P p xs h.1)
  | inr e ↦ rw e (AllByRecursion-filter P p xs h.1)
]

-- and of each element and one more, if it holds of that one
pub AllByRecursion-push : {X : Type 0} (P : X → Type 0) (xs : List X) (y : X) → AllByRecursion P xs → P y → AllByRecursion P (xs ++ y ∷ [])
AllByRecursion-push P [] y h k = (k, tt)
AllByRecursion-push P (x ∷ xs) y h k = (h.0, AllByRecursion-push P xs y h.1 k)

-- and so does whatever follows from it
pub AllByRecursion-weaker : {X : Type 0} (P Q : X → Type 0) → ((x : X) → P x → Q x) → (xs : List X) → AllByRecursion P xs → AllByRecursion Q xs
AllByRecursion-weaker P Q f [] h = tt
AllByRecursion-weaker P Q f (x ∷ xs) h = (f x h.0, AllByRecursion-weaker P Q f xs h.1)

-- a filter may help
pub AllByRecursion-filter_weaker : {X : Type 0} (P Q : X → Type 0) (p : X → Bool) → ((x : X) → p x ≡ true → P x → Q x) → (xs : List X) → AllByRecursion P xs → AllByRecursion Q (filter p xs)
AllByRecursion-filter_weaker P Q p f [] h = tt
AllByRecursion-filter_weaker P Q p f (x ∷ xs) h = elim (cases_Bool (p x)) [
  | inl e ↦ rw e (f x e h.0, AllByRecursion-filter_weaker P Q p f xs h.1)
  | inr e ↦ rw e (AllByRecursion-filter_weaker P Q p f xs h.1)
]

-- where no element passes a test, each fails it
pub AllByRecursion-none : {X : Type 0} (p : X → Bool) (xs : List X) → list_any p xs ≡ false → AllByRecursion (λ x. p x ≡ false) xs
AllByRecursion-none p [] h = tt
AllByRecursion-none p (x ∷ xs) h = let parts = or_parts (p x) (list_any p xs) h in (parts.0, AllByRecursion-none p xs parts.1)

-- where each element fails a test, none passes it
pub list_any-none : {X : Type 0} (p : X → Bool) (xs : List X) → AllByRecursion (λ x. p x ≡ false) xs → list_any p xs ≡ false
list_any-none p [] h = refl
list_any-none p (x ∷ xs) h = or_from (p x) (list_any p xs) h.0 (list_any-none p xs h.1)

-- where no element passes a test, none that a filter leaves does
pub list_any-filter_none : {X : Type 0} (p q : X → Bool) (xs : List X) → list_any p xs ≡ false → list_any p (filter q xs) ≡ false
list_any-filter_none p q [] h = refl
list_any-filter_none p q (x ∷ xs) h =
    let parts = or_parts (p x) (list_any p xs) h in
    elim (cases_Bool (q x)) [
      | inl e ↦ rw (e, parts.0) (list_any-filter_none p q xs parts.1)
      | inr e ↦ rw e (list_any-filter_none p q xs parts.1)
    ]

-- a filter makes no list longer
pub length-filter-le : {X : Type 0} (p : X → Bool) (xs : List X) → length (filter p xs) ≤ length xs
length-filter-le p [] = omega arith
length-filter-le p (x ∷ xs) =
    let rest = length-filter-le p xs in
    elim (cases_Bool (p x)) [
      | inl e ↦ rw e (omega (arith, rest))
      | inr e ↦ rw e (omega (arith, rest))
    ]

-- a filter that leaves an element out
pub length-filter-lt : {X : Type 0} (p q : X → Bool) → ((x : X) → p x ≡ true → q x ≡ false) → (xs : List X) → list_any p xs ≡ true → length (filter q xs) + 1 ≤ length xs
length-filter-lt p q f [] h = absurd (let k : false ≡ true = h in cc)
length-filter-lt p q f (x ∷ xs) h =
    let rest = length-filter-le q xs in
    elim (cases_Bool (p x)) [
      | inl e ↦ rw (f x e) (omega (arith, rest))
      | inr e ↦
          let later = length-filter-lt p q f xs (rw e at h) in
          elim (cases_Bool (q x)) [
            | inl k ↦ rw k (omega (arith, later))
            | inr k ↦ rw k (omega (arith, later))
          ]
    ]

-- ---- elements that differ

-- the elements of the empty list differ
pub IsDistinct-nil : {X : Type 0} (e : X → X → Bool) → IsDistinct e []
unfolding IsDistinct
IsDistinct-nil e = tt

-- elements that differ still do where a filter leaves some of them
pub IsDistinct-filter : {X : Type 0} (e : X → X → Bool) (p : X → Bool) (xs : List X) → IsDistinct e xs → IsDistinct e (filter p xs)
IsDistinct-filter e p [] h = h
IsDistinct-filter e p (x ∷ xs) h =
    let rest = IsDistinct-filter e p xs (IsDistinct-tail e x xs h) in
    elim (cases_Bool (p x)) [
      | inl k ↦ rw k (IsDistinct-cons e x (filter p xs) (AllByRecursion-filter (λ y. e x y ≡ false) p xs (IsDistinct-head e x xs h)) rest)
      | inr k ↦ rw k rest
    ]

-- elements that differ still do with one more that differs from each
pub IsDistinct-append : {X : Type 0} (e : X → X → Bool) (xs : List X) (y : X) → IsDistinct e xs → AllByRecursion (λ x. e x y ≡ false) xs → IsDistinct e (xs ++ y ∷ [])
IsDistinct-append e [] y h k = IsDistinct-cons e y [] tt h
IsDistinct-append e (x ∷ xs) y h k = IsDistinct-cons e x (xs ++ y ∷ []) (AllByRecursion-push (λ z. e x z ≡ false) xs y (IsDistinct-head e x xs h) k.0) (IsDistinct-append e xs y (IsDistinct-tail e x xs h) k.1)

-- ---- pairs of elements

-- R holds of each element with each later one
abbrev pub PairsByRecursion : {X : Type 0} → (X → X → Type 0) → List X → Type 0
PairsByRecursion R [] = Unit {0}
PairsByRecursion R (x ∷ xs) = AllByRecursion (R x) xs × PairsByRecursion R xs

-- what holds of each element and each later one, by recursion, holds of all pairs
pub AllPairs-from_recursion : {X : Type 0} (R : X → X → Type 0) (xs : List X) → PairsByRecursion R xs → AllPairs R xs
AllPairs-from_recursion R [] h i j d before inside = absurd (omega arith)
AllPairs-from_recursion R (x ∷ xs) h i zero d before inside = absurd (omega arith)
AllPairs-from_recursion R (x ∷ xs) h zero (suc j) d before inside = All-from_recursion (R x) xs h.0 j d (omega arith)
AllPairs-from_recursion R (x ∷ xs) h (suc i) (suc j) d before inside = AllPairs-from_recursion R xs h.1 i j d (omega arith) (omega arith)

-- ---- one place

-- what was written at a place stands there
pub slice_get-set_same : {X : Type 0} (xs : List X) (i : ℕ) (x : X) → i < length xs → slice_get (slice_set xs i x) i ≡ Some x
slice_get-set_same [] i x lt = absurd (omega arith)
slice_get-set_same (y ∷ ys) zero x lt = refl
slice_get-set_same (y ∷ ys) (suc i) x lt = slice_get-set_same ys i x (omega arith)

-- and what stands elsewhere is as before
pub slice_get-set_other : {X : Type 0} (xs : List X) (i j : ℕ) (x : X) → (i ≡ j → ⊥) → slice_get (slice_set xs i x) j ≡ slice_get xs j
slice_get-set_other [] i j x apart = refl
slice_get-set_other (y ∷ ys) zero zero x apart = absurd (apart refl)
slice_get-set_other (y ∷ ys) zero (suc j) x apart = refl
slice_get-set_other (y ∷ ys) (suc i) zero x apart = refl
slice_get-set_other (y ∷ ys) (suc i) (suc j) x apart = slice_get-set_other ys i j x (λ e. apart (ap suc e))
