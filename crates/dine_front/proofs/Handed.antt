-- Passes that were handed in, by their numbers.
use Rattle.std.proofs.Common.{◌≡◌, ℕ, zero, suc, ◌+◌, ◌<◌, ◌≤◌, ◌==◌, Bool, true, false, List, [], ◌∷◌, ◌++◌, length, take, drop, get_or, Some, None, Option, refl, ap, sym, ◌∙◌, subst, arith}
use Rattle.std.proofs.lemmas.Bool.Decides.{nat_tests}
use Rattle.std.proofs.lemmas.List.{take_more, drop_more, take-append-drop}
use Rattle.dine_front.specs.Passes.{Pass}
use Rattle.dine_front.specs.Mine.{first_if, receipts_of}
use Rattle.dine_front.specs.Verdicts.{NoneMissing}
use Rattle.dine_front.proofs.Histories.{differs, is_same}

-- a test with no answer failed, and the rest has none either
first_if-none : {A : Type 0} (b : Bool) (x : A) (o : Option A) → first_if b x o ≡ None → (b ≡ false) × (o ≡ None)
first_if-none true x o e = absurd cc
first_if-none false x o e = (refl, e)

-- the first pass with a number has the receipts that go by it
receipts_of-here : (k : ℕ) (ps qs : List Pass) (p : Pass) → receipts_of k ps ≡ None → p.number ≡ k → receipts_of k (ps ++ p ∷ qs) ≡ Some p.receipts
receipts_of-here k [] qs p h e = ap (λ b. first_if b p.receipts (receipts_of k qs)) (is_same p.number k e)
receipts_of-here k (x ∷ ps) qs p h e =
    let t = first_if-none (x.number == k) x.receipts (receipts_of k ps) h in
    ap (λ b. first_if b x.receipts (receipts_of k (ps ++ p ∷ qs))) t.0 ∙ receipts_of-here k ps qs p t.1 e

-- a number that no pass has, and the next pass doesn't have either, is not handed in
receipts_of-push : (k : ℕ) (ps : List Pass) (p : Pass) → receipts_of k ps ≡ None → (p.number ≡ k → ⊥) → receipts_of k (ps ++ p ∷ []) ≡ None
receipts_of-push k [] p h e = ap (λ b. first_if b p.receipts None) (differs p.number k e)
receipts_of-push k (x ∷ ps) p h e =
    let t = first_if-none (x.number == k) x.receipts (receipts_of k ps) h in
    ap (λ b. first_if b x.receipts (receipts_of k (ps ++ p ∷ []))) t.0 ∙ receipts_of-push k ps p t.1 e

-- the pass at i is the first with its number
pub found_at : (k : ℕ) (ps : List Pass) (i : ℕ) (d : Pass) → i < length ps → receipts_of k (take i ps) ≡ None → (get_or ps i d).number ≡ k → receipts_of k ps ≡ Some (get_or ps i d).receipts
found_at k ps i d lt gone e =
    let whole : take i ps ++ get_or ps i d ∷ drop (i + 1) ps ≡ ps = ap (λ l. take i ps ++ l) (sym (drop_more ps i d lt)) ∙ take-append-drop i ps in
    let P : List Pass → Type 0 = λ l. receipts_of k l ≡ Some (get_or ps i d).receipts in
    subst P whole (receipts_of-here k (take i ps) (drop (i + 1) ps) (get_or ps i d) gone e)

-- nor is the pass at i the one with the number k
pub not_found_to : (k : ℕ) (ps : List Pass) (i : ℕ) (d : Pass) → i < length ps → receipts_of k (take i ps) ≡ None → ((get_or ps i d).number ≡ k → ⊥) → receipts_of k (take (i + 1) ps) ≡ None
not_found_to k ps i d lt gone e =
    let P : List Pass → Type 0 = λ l. receipts_of k l ≡ None in
    subst P (sym (take_more ps i d lt)) (receipts_of-push k (take i ps) (get_or ps i d) gone e)

-- what is there is not missing
pub some_is_not_none : {A : Type 0} (o : Option A) (x : A) → o ≡ Some x → o ≡ None → ⊥
some_is_not_none o x p q = cc

-- ---- enough passes: where each number below n is handed in, there are n passes

-- 1 where something is there, else 0
hit : {A : Type 0} → Option A → ℕ
hit None = 0
hit (Some x) = 1

-- how many of the numbers below n were handed in
found : ℕ → List Pass → ℕ
found zero ps = 0
found (suc n) ps = found n ps + hit (receipts_of n ps)

-- where no pass was handed in, no number was
found-none : (n : ℕ) → found n [] ≡ 0
unfolding found hit
found-none zero = refl
found-none (suc n) = omega (arith, found-none n)

-- one pass more hands in one number more at most: the step from the numbers below n to those up to n, where b
-- tells whether n is its own
found-step : (n : ℕ) (p : Pass) (ps : List Pass) (b : Bool) → (p.number == n) ≡ b → (found n (p ∷ ps) ≤ found n ps + 1) × (n ≤ p.number → found n (p ∷ ps) ≤ found n ps)
    → (found n (p ∷ ps) + hit (first_if b p.receipts (receipts_of n ps)) ≤ (found n ps + hit (receipts_of n ps)) + 1) × (suc n ≤ p.number → found n (p ∷ ps) + hit (first_if b p.receipts (receipts_of n ps)) ≤ found n ps + hit (receipts_of n ps))
unfolding hit
found-step n p ps true e h =
    let same : p.number ≡ n = grind (arith, nat_tests) in
    let less : found n (p ∷ ps) ≤ found n ps = h.1 (omega arith) in
    (omega arith, λ le. absurd (omega arith))
found-step n p ps false e h = (let a = h.0 in omega arith, λ le. let l : n ≤ p.number = omega arith in let a = h.1 l in omega arith)

-- one pass more hands in one number more at most, and none below its own
found-cons : (n : ℕ) (p : Pass) (ps : List Pass) → (found n (p ∷ ps) ≤ found n ps + 1) × (n ≤ p.number → found n (p ∷ ps) ≤ found n ps)
unfolding found
found-cons zero p ps = (omega arith, λ _. omega arith)
found-cons (suc n) p ps = found-step n p ps (p.number == n) refl (found-cons n p ps)

-- no more numbers were handed in than passes
found-le : (n : ℕ) (ps : List Pass) → found n ps ≤ length ps
found-le n [] = omega (arith, found-none n)
found-le n (p ∷ ps) = let a = (found-cons n p ps).0 in omega (arith, found-le n ps)

-- what is not missing counts 1
hit-some : {A : Type 0} (o : Option A) → (o ≡ None → ⊥) → hit o ≡ 1
unfolding hit
hit-some None h = absurd (h refl)
hit-some (Some x) h = refl

-- where none is missing, each number below n was handed in
found-all : (n : ℕ) (ps : List Pass) → NoneMissing n ps → found n ps ≡ n
unfolding found
found-all zero ps h = refl
found-all (suc n) ps h = let a = found-all n ps (λ k lt. h k (omega arith)) in let b = hit-some (receipts_of n ps) (h n (omega arith)) in omega arith

-- each number below n is another pass's
pub enough : (n : ℕ) (ps : List Pass) → NoneMissing n ps → n ≤ length ps
enough n ps h = omega (arith, found-all n ps h, found-le n ps)
