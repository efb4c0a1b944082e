-- Over a history and the passes that were handed in there is one verdict.
use Rattle.std.proofs.Common.{◌≡◌, ℕ, ◌<◌, ◌≤◌, ◌⊎◌, inl, inr, List, [], ◌∷◌, length, take, slice_get, Some, refl, sym, ap, ◌∙◌, arith, length-take}
use Rattle.std.proofs.lemmas.Bool.{cases_lt}
use Rattle.std.proofs.lemmas.List.{get_or-take}
use Rattle.std.proofs.lemmas.Option.{slice_get-get_or, slice_get_past}
use Rattle.dine_words.specs.declared.call.Call.{Call}
use Rattle.dine_words.specs.declared.entry.Entry.{Entry}
use Rattle.dine_journal.specs.declared.hall.Answer.{Answer}
use Rattle.dine_front.specs.declared.verdict.Verdict.{Verdict}
use Rattle.dine_front.specs.declared.verdict.Verdict.TheVariants.{Missing, Differs, Settled}
use Rattle.dine_front.specs.Passes.{Pass}
use Rattle.dine_front.specs.Mine.{mine, receipts_of}
use Rattle.dine_front.specs.Verdicts.{AllSettled, IsDiffering, IsMissing, IsVerdict, PartAt}
use Rattle.dine_front.proofs.Handed.{some_is_not_none}

-- neither is less, so they are one
neither_less : (k l : ℕ) → (k < l → ⊥) → (l < k → ⊥) → k ≡ l
neither_less k l no_less no_more = go (cases_lt k l) (cases_lt l k)
  where
    go : (k < l) ⊎ (l ≤ k) → (l < k) ⊎ (k ≤ l) → k ≡ l
    go (inl lt) _ = absurd (no_less lt)
    go (inr ge) (inl lt) = absurd (no_more lt)
    go (inr ge) (inr le) = omega arith

-- of a list that is cut, what stands before the cut is what stood there
slice_get-take : {A : Type 0} (xs : List A) (n i : ℕ) → i < n → slice_get (take n xs) i ≡ slice_get xs i
slice_get-take xs n i lt = go xs (cases_lt i (length xs))
  where
    within : {A : Type 0} (xs : List A) (d : A) → i < length xs → slice_get (take n xs) i ≡ slice_get xs i
    within xs d le =
        slice_get-get_or (take n xs) i d (omega (arith, length-take n xs)) ∙ (ap Some (get_or-take n xs i d lt) ∙ sym (slice_get-get_or xs i d le))

    go : {A : Type 0} (xs : List A) → (i < length xs) ⊎ (length xs ≤ i) → slice_get (take n xs) i ≡ slice_get xs i
    go xs (inr past) = slice_get_past (take n xs) i (omega (arith, length-take n xs)) ∙ sym (slice_get_past xs i past)
    go [] (inl le) = absurd (omega arith)
    go (x ∷ xs) (inl le) = within (x ∷ xs) x le

-- lists that part at a place don't part sooner
not_sooner : (i j : ℕ) (xs ys : List (Call × Answer)) → PartAt i xs ys → PartAt j xs ys → i < j → ⊥
not_sooner i j xs ys p q lt =
    p.differ (sym (slice_get-take xs j i lt) ∙ (ap (λ l. slice_get l i) q.same_before ∙ slice_get-take ys j i lt))

-- receipts that are settled part nowhere
settled_part : (passes : List Pass) (history : List Entry) (k i : ℕ) (receipts : List (Call × Answer)) → receipts_of k passes ≡ Some receipts → receipts_of k passes ≡ Some (mine k history) → PartAt i receipts (mine k history) → ⊥
settled_part passes history k i receipts is settled part = part.differ (ap (λ l. slice_get l i) (some_is (sym is ∙ settled)))
  where
    some_is : {A : Type 0} {x y : A} → Some x ≡ Some y → x ≡ y
    some_is e = cc

-- of two passes that are the first missing neither comes first
not_missing : (n : ℕ) (passes : List Pass) (k l : ℕ) → IsMissing n passes k → IsMissing n passes l → k < l → ⊥
not_missing n passes k l p q lt = q.first k lt p.missing

-- of two passes that are the first to part neither comes first
not_differing : (n : ℕ) (passes : List Pass) (history : List Entry) (k i l j : ℕ) → IsDiffering n passes history k i → IsDiffering n passes history l j → k < l → ⊥
not_differing n passes history k i l j p q lt = settled_part passes history k i p.receipts p.of_pass (q.first k lt) p.part

-- where a pass is missing, not all are settled
missing_settled : (n : ℕ) (passes : List Pass) (history : List Entry) (k : ℕ) → IsMissing n passes k → AllSettled n passes history → ⊥
missing_settled n passes history k p q = some_is_not_none (receipts_of k passes) (mine k history) (q k p.in_range) p.missing

-- where the receipts of a pass part from the history, not all are settled
differing_settled : (n : ℕ) (passes : List Pass) (history : List Entry) (k i : ℕ) → IsDiffering n passes history k i → AllSettled n passes history → ⊥
differing_settled n passes history k i p q = settled_part passes history k i p.receipts p.of_pass (q k p.in_range) p.part

-- the receipts of one pass don't part at two places
same_place : (n : ℕ) (passes : List Pass) (history : List Entry) (k i l j : ℕ) → IsDiffering n passes history k i → IsDiffering n passes history l j → k ≡ l → i < j → ⊥
same_place n passes history k i l j p q same lt =
    let at_l : receipts_of k passes ≡ Some q.receipts = ap (λ (m : ℕ). receipts_of m passes) same ∙ q.of_pass in
    let receipts : p.receipts ≡ q.receipts = some_is (sym p.of_pass ∙ at_l) in
    let part : PartAt j p.receipts (mine k history) = rw (receipts, same) q.part in
    not_sooner i j p.receipts (mine k history) p.part part lt
  where
    some_is : {A : Type 0} {x y : A} → Some x ≡ Some y → x ≡ y
    some_is e = cc

-- two verdicts over the same history and passes are one
pub one_verdict : (n : ℕ) (passes : List Pass) (history : List Entry) (v w : Verdict) → IsVerdict n passes history v → IsVerdict n passes history w → v ≡ w
one_verdict n passes history (Missing k) (Missing l) p q = ap Missing (neither_less k l (not_missing n passes k l p q) (not_missing n passes l k q p))
one_verdict n passes history (Missing k) (Differs l j) p q = absurd (q.all_here k p.in_range p.missing)
one_verdict n passes history (Missing k) Settled p q = absurd (missing_settled n passes history k p q)
one_verdict n passes history (Differs k i) (Missing l) p q = absurd (p.all_here l q.in_range q.missing)
one_verdict n passes history (Differs k i) (Differs l j) p q =
    let same : k ≡ l = neither_less k l (not_differing n passes history k i l j p q) (not_differing n passes history l j k i q p) in
    let place : i ≡ j = neither_less i j (same_place n passes history k i l j p q same) (same_place n passes history l j k i q p (sym same)) in
    ap (λ (m : ℕ). Differs m i) same ∙ ap (λ (m : ℕ). Differs l m) place
one_verdict n passes history (Differs k i) Settled p q = absurd (differing_settled n passes history k i p q)
one_verdict n passes history Settled (Missing l) p q = absurd (missing_settled n passes history l q p)
one_verdict n passes history Settled (Differs l j) p q = absurd (differing_settled n passes history l j q p)
one_verdict n passes history Settled Settled p q = refl
