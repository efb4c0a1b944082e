-- The receipts that a history says a pass has, entry by entry, and where other receipts part from them.
use Rattle.std.proofs.Common.{◌≡◌, ℕ, suc, ◌+◌, ◌<◌, ◌≤◌, ◌==◌, Bool, true, false, List, [], ◌∷◌, ◌++◌, length, take, drop, get_or, slice_get, Some, None, refl, ap, sym, ◌∙◌, subst, arith, length-append, append-nil}
use Rattle.std.proofs.lemmas.Bool.Decides.{nat_tests}
use Rattle.std.proofs.lemmas.List.{take_more, drop_more, take-append-drop, take_at, take_all, length-take-le}
use Rattle.std.proofs.lemmas.Option.{slice_get-get_or, slice_get_past}
use Rattle.std.proofs.Math.Seq.{get_or-append_seam}
use Rattle.dine_words.specs.declared.call.Call.{Call}
use Rattle.dine_words.specs.declared.entry.Entry.{Entry}
use Rattle.dine_journal.specs.declared.hall.Answer.{Answer}
use Rattle.dine_front.specs.Mine.{kept_if, mine, mine_from, receipt_for}
use Rattle.dine_front.specs.Verdicts.{PartAt}

-- numbers that are not one are told to differ
pub differs : (m k : ℕ) → (m ≡ k → ⊥) → (m == k) ≡ false
differs m k h = grind (arith, nat_tests)

-- numbers that are one are told to be the same
pub is_same : (m k : ℕ) → m ≡ k → (m == k) ≡ true
is_same m k h = grind (arith, nat_tests)

-- what is kept or left out before two lists is so before the first
kept_if-append : {A : Type 0} (b : Bool) (x : A) (xs ys : List A) → kept_if b x (xs ++ ys) ≡ kept_if b x xs ++ ys
kept_if-append true x xs ys = refl
kept_if-append false x xs ys = refl

-- of a history in two parts, the receipts for each
mine_from-append : (k place : ℕ) (xs ys : List Entry) → mine_from k place (xs ++ ys) ≡ mine_from k place xs ++ mine_from k (place + length xs) ys
mine_from-append k place [] ys = let z : place ≡ place + 0 = omega arith in ap (λ (n : ℕ). mine_from k n ys) z
mine_from-append k place (x ∷ xs) ys =
    let z : (place + 1) + length xs ≡ place + suc (length xs) = omega arith in
    ap (kept_if (x.pass == k) (receipt_for place x)) (mine_from-append k (place + 1) xs ys ∙ ap (λ (n : ℕ). mine_from k (place + 1) xs ++ mine_from k n ys) z)
    ∙ kept_if-append (x.pass == k) (receipt_for place x) (mine_from k (place + 1) xs) (mine_from k (place + suc (length xs)) ys)

-- the receipts for the first i entries, and for the rest from the next one on
mine-split : (k : ℕ) (es : List Entry) (i : ℕ) (d : Entry) → i < length es → mine k es ≡ mine k (take i es) ++ mine_from k i (get_or es i d ∷ drop (i + 1) es)
mine-split k es i d lt =
    let whole : es ≡ take i es ++ get_or es i d ∷ drop (i + 1) es = sym (ap (λ l. take i es ++ l) (sym (drop_more es i d lt)) ∙ take-append-drop i es) in
    let at : 0 + length (take i es) ≡ i = omega (arith, length-take-le i es) in
    ap (mine k) whole ∙ (mine_from-append k 0 (take i es) (get_or es i d ∷ drop (i + 1) es) ∙ ap (λ (n : ℕ). mine k (take i es) ++ mine_from k n (get_or es i d ∷ drop (i + 1) es)) at)

-- the receipts for one entry more: the entry's own behind them, if it is the pass's
mine-more : (k : ℕ) (es : List Entry) (i : ℕ) (d : Entry) → i < length es → mine k (take (i + 1) es) ≡ mine k (take i es) ++ kept_if ((get_or es i d).pass == k) (receipt_for i (get_or es i d)) []
mine-more k es i d lt =
    let e = get_or es i d in
    let at : 0 + length (take i es) ≡ i = omega (arith, length-take-le i es) in
    ap (mine k) (take_more es i d lt) ∙ (mine_from-append k 0 (take i es) (e ∷ []) ∙ ap (λ (n : ℕ). mine k (take i es) ++ mine_from k n (e ∷ [])) at)

-- one entry more that is another pass's
pub matched-other : (k : ℕ) (es : List Entry) (rs : List (Call × Answer)) (i n : ℕ) (d : Entry) → i < length es → take n rs ≡ mine k (take i es) → ((get_or es i d).pass ≡ k → ⊥) → take n rs ≡ mine k (take (i + 1) es)
matched-other k es rs i n d lt same other =
    let e = get_or es i d in
    same ∙ sym (mine-more k es i d lt ∙ (ap (λ b. mine k (take i es) ++ kept_if b (receipt_for i e) []) (differs e.pass k other) ∙ append-nil (mine k (take i es))))

-- one entry more of the pass, with its receipt
pub matched-own : (k : ℕ) (es : List Entry) (rs : List (Call × Answer)) (i n : ℕ) (d : Entry) (r : Call × Answer) → i < length es → n < length rs → take n rs ≡ mine k (take i es) → (get_or es i d).pass ≡ k
    → get_or rs n r ≡ receipt_for i (get_or es i d) → take (n + 1) rs ≡ mine k (take (i + 1) es)
matched-own k es rs i n d r lt le same own is =
    let e = get_or es i d in
    let x = receipt_for i e in
    take_more rs n r le ∙ (ap (λ y. take n rs ++ y ∷ []) is ∙ (ap (λ l. l ++ x ∷ []) same
    ∙ sym (mine-more k es i d lt ∙ ap (λ b. mine k (take i es) ++ kept_if b x []) (is_same e.pass k own))))

-- behind the first of two lists stands the head of the second
slice_get_seam : {A : Type 0} (xs : List A) (y : A) (ys : List A) (n : ℕ) → length xs ≡ n → slice_get (xs ++ y ∷ ys) n ≡ Some y
slice_get_seam xs y ys n is =
    let lt : length xs < length (xs ++ y ∷ ys) = omega (arith, length-append xs (y ∷ ys)) in
    subst (λ (m : ℕ). slice_get (xs ++ y ∷ ys) m ≡ Some y) is (slice_get-get_or (xs ++ y ∷ ys) (length xs) y lt ∙ ap Some (get_or-append_seam xs y ys y))

-- after n receipts that match comes an entry of the pass for which the next receipt isn't
pub part-own : (k : ℕ) (es : List Entry) (rs : List (Call × Answer)) (i n : ℕ) (d : Entry) → i < length es → n ≤ length rs → take n rs ≡ mine k (take i es) → (get_or es i d).pass ≡ k
    → (slice_get rs n ≡ Some (receipt_for i (get_or es i d)) → ⊥) → PartAt n rs (mine k es)
part-own k es rs i n d lt le same own differ =
    let e = get_or es i d in
    let x = receipt_for i e in
    let rest = mine_from k (i + 1) (drop (i + 1) es) in
    let ms = mine k (take i es) in
    let whole : mine k es ≡ ms ++ x ∷ rest = mine-split k es i d lt ∙ ap (λ b. ms ++ kept_if b x rest) (is_same e.pass k own) in
    let len : length ms ≡ n = sym (ap length same) ∙ length-take-le n rs le in
    record {
      same_before = same ∙ sym (ap (take n) whole ∙ take_at ms (x ∷ rest) n len);
      differ = λ eq. differ (eq ∙ (ap (λ l. slice_get l n) whole ∙ slice_get_seam ms x rest n len));
    }

-- at a place within a list something stands
within_is_some : {A : Type 0} (xs : List A) (n : ℕ) → n < length xs → slice_get xs n ≡ None → ⊥
within_is_some [] n lt e = absurd (omega arith)
within_is_some (x ∷ xs) n lt e = let there = slice_get-get_or (x ∷ xs) n x lt in absurd cc

-- the history ends, and a receipt is left
pub part-left : (k : ℕ) (es : List Entry) (rs : List (Call × Answer)) (i n : ℕ) → length es ≤ i → n < length rs → take n rs ≡ mine k (take i es) → PartAt n rs (mine k es)
part-left k es rs i n past lt same =
    let all : take n rs ≡ mine k es = same ∙ ap (mine k) (take_all i es past) in
    let len : length (mine k es) ≡ n = sym (ap length all) ∙ length-take-le n rs (omega arith) in
    record {
      same_before = all ∙ sym (take_all n (mine k es) (omega (arith, len)));
      differ = λ eq. within_is_some rs n lt (eq ∙ slice_get_past (mine k es) n (omega (arith, len)));
    }

-- the history ends, and no receipt is left
pub matched-all : (k : ℕ) (es : List Entry) (rs : List (Call × Answer)) (i n : ℕ) → length es ≤ i → length rs ≤ n → take n rs ≡ mine k (take i es) → rs ≡ mine k es
matched-all k es rs i n past none same = sym (take_all n rs none) ∙ (same ∙ ap (mine k) (take_all i es past))

-- past the last receipt there is none
pub no_receipt : (rs : List (Call × Answer)) (n : ℕ) (x : Call × Answer) → length rs ≤ n → slice_get rs n ≡ Some x → ⊥
no_receipt rs n x past e = let none = slice_get_past rs n past in absurd cc

-- the receipt there is another
pub other_receipt : (rs : List (Call × Answer)) (n : ℕ) (d x : Call × Answer) → n < length rs → (get_or rs n d ≡ x → ⊥) → slice_get rs n ≡ Some x → ⊥
other_receipt rs n d x lt other e = other (some_is (sym (slice_get-get_or rs n d lt) ∙ e))
  where
    some_is : {A : Type 0} {y z : A} → Some y ≡ Some z → y ≡ z
    some_is e = cc
