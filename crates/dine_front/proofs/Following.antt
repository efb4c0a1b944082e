-- Cursors that follow a history, entry by entry.
use Rattle.std.proofs.Common.{◌≡◌, ℕ, ◌+◌, ◌<◌, ◌≤◌, ◌⊎◌, inl, inr, true, false, List, [], ◌∷◌, length, take, get_or, set, slice_get, Some, None, refl, ap, sym, ◌∙◌, subst, arith, get_or-set_same, get_or-set_other, length-set}
use Rattle.std.proofs.lemmas.Bool.{cases_eq}
use Rattle.std.proofs.lemmas.List.{get_or_default}
use Rattle.dine_words.specs.declared.call.Call.{Call}
use Rattle.dine_words.specs.declared.entry.Entry.{Entry}
use Rattle.dine_journal.specs.declared.hall.Answer.{Answer}
use Rattle.dine_front.specs.declared.cursors.Cursor.{Cursor}
use Rattle.dine_front.specs.Passes.{Pass}
use Rattle.dine_front.specs.Mine.{mine, receipt_for, receipts_of}
use Rattle.dine_front.specs.Verdicts.{AllSettled, IsDiffering, NoneMissing, PartAt}
use Rattle.dine_front.specs.Cursors.{AllFollow, Follows, IsCompared}
use Rattle.dine_front.proofs.Handed.{found_at, some_is_not_none}
use Rattle.dine_front.proofs.Histories.{matched-all, matched-other, matched-own, part-left, part-own}

-- the pass at i is the first with its number, whatever stands past the end
pub found_here : (k : ℕ) (ps : List Pass) (i : ℕ) (d : Pass) → i < length ps → receipts_of k (take i ps) ≡ None → (get_or ps i d).number ≡ k → (p : Pass) → receipts_of k ps ≡ Some (get_or ps i p).receipts
found_here k ps i d lt gone e p = found_at k ps i d lt gone e ∙ ap (λ (q : Pass). Some q.receipts) (get_or_default ps i d p lt)

-- before the first entry nothing was compared
pub starts : (passes : List Pass) (history : List Entry) (k at : ℕ) → at < length passes → ((p : Pass) → receipts_of k passes ≡ Some (get_or passes at p).receipts) → Follows passes history 0 k (record { at = at; matched = 0; is_parted = false })
starts passes history k at lt of_pass =
    record {
      here = lt;
      of_pass = of_pass;
      compared = λ p. record { same = λ _. refl; within = λ _. omega arith; part = λ h. absurd (let no : false ≡ true = h in cc) };
    }

-- an entry of another pass leaves the cursor where it is
pub other_compared : (i k : ℕ) (history : List Entry) (receipts : List (Call × Answer)) (c : Cursor) (e : Entry) → i < length history → ((get_or history i e).pass ≡ k → ⊥) → IsCompared i k history receipts c → IsCompared (i + 1) k history receipts c
other_compared i k history receipts c e lt other so_far =
    record { same = λ h. matched-other k history receipts i c.matched e lt (so_far.same h) other; within = so_far.within; part = so_far.part }

-- nor does such an entry make a cursor leave its pass
pub other_follows : (passes : List Pass) (history : List Entry) (i k : ℕ) (c : Cursor) (e : Entry) → i < length history → ((get_or history i e).pass ≡ k → ⊥) → Follows passes history i k c → Follows passes history (i + 1) k c
other_follows passes history i k c e lt other f =
    record { here = f.here; of_pass = f.of_pass; compared = λ p. other_compared i k history (get_or passes c.at p).receipts c e lt other (f.compared p) }

-- an entry of a pass that the front doesn't have leaves all of them
pub all_others : (n : ℕ) (passes : List Pass) (history : List Entry) (i : ℕ) (cursors : List Cursor) (e : Entry) → i < length history → n ≤ (get_or history i e).pass → AllFollow n passes history i cursors → AllFollow n passes history (i + 1) cursors
all_others n passes history i cursors e lt past all =
    record { places = all.places; each = λ k le c. other_follows passes history i k (get_or cursors k c) e lt (λ is. absurd (omega arith)) (all.each k le c) }

-- an entry of pass m moves its cursor alone
pub one_moves : (n : ℕ) (passes : List Pass) (history : List Entry) (i : ℕ) (cursors : List Cursor) (e : Entry) (m : ℕ) (v : Cursor) → i < length history → n ≤ 16 → m < n → (get_or history i e).pass ≡ m → AllFollow n passes history i cursors → Follows passes history (i + 1) m v
    → AllFollow n passes history (i + 1) (set cursors m v)
one_moves n passes history i cursors e m v lt few le own all moved =
    record { places = length-set cursors m v ∙ all.places; each = λ k lk c. at k lk c (cases_eq k m) }
  where
    at : (k : ℕ) → k < n → (c : Cursor) → (k ≡ m) ⊎ (k ≡ m → ⊥) → Follows passes history (i + 1) k (get_or (set cursors m v) k c)
    at k lk c (inl is) =
        let P : ℕ → Type 0 = λ j. Follows passes history (i + 1) j (get_or (set cursors m v) j c) in
        subst P (sym is) (subst (Follows passes history (i + 1) m) (sym (get_or-set_same cursors m v c (omega (arith, all.places)))) moved)
    at k lk c (inr other) =
        subst (Follows passes history (i + 1) k) (sym (get_or-set_other cursors m k v c other)) (other_follows passes history i k (get_or cursors k c) e lt (λ is. other (sym is ∙ own)) (all.each k lk c))

-- the cursor behind one more entry stands where it stood
pub moved_follows : (passes : List Pass) (history : List Entry) (i k : ℕ) (c v : Cursor) (p : Pass) → v.at ≡ c.at → Follows passes history i k c → IsCompared (i + 1) k history (get_or passes c.at p).receipts v → Follows passes history (i + 1) k v
moved_follows passes history i k c v p is f compared =
    let same : (q : Pass) → get_or passes c.at p ≡ get_or passes v.at q = λ q. get_or_default passes c.at p q f.here ∙ ap (λ (n : ℕ). get_or passes n q) (sym is) in
    record {
      here = omega (arith, is, f.here);
      of_pass = λ q. f.of_pass q ∙ ap (λ (n : ℕ). Some (get_or passes n q).receipts) (sym is);
      compared = λ q. subst (λ (r : Pass). IsCompared (i + 1) k history r.receipts v) (same q) compared;
    }

-- each pass that has a cursor was handed in
pub none_missing : (n : ℕ) (passes : List Pass) (history : List Entry) (i : ℕ) (cursors : List Cursor) (c : Cursor) (p : Pass) → AllFollow n passes history i cursors → NoneMissing n passes
none_missing n passes history i cursors c p all k lt =
    let f = all.each k lt c in
    some_is_not_none (receipts_of k passes) (get_or passes (get_or cursors k c).at p).receipts (f.of_pass p)

-- ---- one cursor behind one more entry of its pass

-- they part here
pub parts_here : (i k : ℕ) (history : List Entry) (receipts : List (Call × Answer)) (at n : ℕ) → PartAt n receipts (mine k history) → IsCompared i k history receipts (record { at = at; matched = n; is_parted = true })
parts_here i k history receipts at n part =
    record {
      same = λ f. absurd (let no : true ≡ false = f in cc);
      within = λ f. absurd (let no : true ≡ false = f in cc);
      part = λ _. part;
    }

-- they go on alike
pub goes_on : (i k : ℕ) (history : List Entry) (receipts : List (Call × Answer)) (at n : ℕ) → take n receipts ≡ mine k (take i history) → n ≤ length receipts → IsCompared i k history receipts (record { at = at; matched = n; is_parted = false })
goes_on i k history receipts at n same within =
    record { same = λ _. same; within = λ _. within; part = λ f. absurd (let no : false ≡ true = f in cc) }

-- an entry of the pass for which the next receipt isn't parts them
pub parts_own : (i k : ℕ) (history : List Entry) (receipts : List (Call × Answer)) (c : Cursor) (e : Entry) → i < length history → (get_or history i e).pass ≡ k → c.is_parted ≡ false → IsCompared i k history receipts c
    → (slice_get receipts c.matched ≡ Some (receipt_for i (get_or history i e)) → ⊥) → IsCompared (i + 1) k history receipts (record { at = c.at; matched = c.matched; is_parted = true })
parts_own i k history receipts c e lt own whole so_far differ =
    parts_here (i + 1) k history receipts c.at c.matched (part-own k history receipts i c.matched e lt (so_far.within whole) (so_far.same whole) own differ)

-- an entry of the pass with the next receipt leaves them alike
pub goes_on_own : (i k : ℕ) (history : List Entry) (receipts : List (Call × Answer)) (c : Cursor) (e : Entry) (r : Call × Answer) → i < length history → (get_or history i e).pass ≡ k → c.is_parted ≡ false → IsCompared i k history receipts c
    → c.matched < length receipts → get_or receipts c.matched r ≡ receipt_for i (get_or history i e) → IsCompared (i + 1) k history receipts (record { at = c.at; matched = c.matched + 1; is_parted = c.is_parted })
goes_on_own i k history receipts c e r lt own whole so_far some is =
    subst (λ b. IsCompared (i + 1) k history receipts (record { at = c.at; matched = c.matched + 1; is_parted = b })) (sym whole)
    (goes_on (i + 1) k history receipts c.at (c.matched + 1) (matched-own k history receipts i c.matched e r lt some (so_far.same whole) own is) (omega arith))

-- ---- all cursors before the first entry

-- one more pass was handed in
pub more_here : (passes : List Pass) (n at : ℕ) → ((p : Pass) → receipts_of n passes ≡ Some (get_or passes at p).receipts) → at < length passes → NoneMissing n passes → NoneMissing (n + 1) passes
more_here passes n at of_pass lt here k le = go (cases_eq k n)
  where
    some_pass : (ps : List Pass) → at < length ps → Pass
    some_pass [] h = absurd (omega arith)
    some_pass (p ∷ ps) h = p

    go : (k ≡ n) ⊎ (k ≡ n → ⊥) → receipts_of k passes ≡ None → ⊥
    go (inl is) =
        let p = some_pass passes lt in
        some_is_not_none (receipts_of k passes) (get_or passes at p).receipts (ap (λ (m : ℕ). receipts_of m passes) is ∙ of_pass p)
    go (inr other) = here k (omega arith)

-- and has its cursor, beside those before it
pub one_starts : (passes : List Pass) (history : List Entry) (cursors : List Cursor) (n : ℕ) (v : Cursor) → n < length cursors → Follows passes history 0 n v → ((k : ℕ) → k < n → (c : Cursor) → Follows passes history 0 k (get_or cursors k c))
    → (k : ℕ) → k < n + 1 → (c : Cursor) → Follows passes history 0 k (get_or (set cursors n v) k c)
one_starts passes history cursors n v lt first before k le c = go (cases_eq k n)
  where
    go : (k ≡ n) ⊎ (k ≡ n → ⊥) → Follows passes history 0 k (get_or (set cursors n v) k c)
    go (inl is) =
        let P : ℕ → Type 0 = λ j. Follows passes history 0 j (get_or (set cursors n v) j c) in
        subst P (sym is) (subst (Follows passes history 0 n) (sym (get_or-set_same cursors n v c lt)) first)
    go (inr other) = subst (Follows passes history 0 k) (sym (get_or-set_other cursors n k v c other)) (before k (omega arith) c)

-- ---- a cursor behind the whole history

-- receipts that did not part, and of which none is left, are what the history says
pub settled_here : (passes : List Pass) (history : List Entry) (k : ℕ) (c : Cursor) (p : Pass) → Follows passes history (length history) k c → c.is_parted ≡ false → length (get_or passes c.at p).receipts ≤ c.matched → receipts_of k passes ≡ Some (mine k history)
settled_here passes history k c p f whole none =
    f.of_pass p ∙ ap (λ (l : List (Call × Answer)). Some l) (matched-all k history (get_or passes c.at p).receipts (length history) c.matched (omega arith) none ((f.compared p).same whole))

-- one pass more is settled
pub more_settled : (n : ℕ) (passes : List Pass) (history : List Entry) → AllSettled n passes history → receipts_of n passes ≡ Some (mine n history) → AllSettled (n + 1) passes history
more_settled n passes history so_far last k le = go (cases_eq k n)
  where
    go : (k ≡ n) ⊎ (k ≡ n → ⊥) → receipts_of k passes ≡ Some (mine k history)
    go (inl is) = let P : ℕ → Type 0 = λ j. receipts_of j passes ≡ Some (mine j history) in subst P (sym is) last
    go (inr other) = so_far k (omega arith)

-- a receipt that is left is for no entry
pub left_here : (passes : List Pass) (history : List Entry) (k : ℕ) (c : Cursor) (p : Pass) → Follows passes history (length history) k c → c.is_parted ≡ false → c.matched < length (get_or passes c.at p).receipts → PartAt c.matched (get_or passes c.at p).receipts (mine k history)
left_here passes history k c p f whole some =
    part-left k history (get_or passes c.at p).receipts (length history) c.matched (omega arith) some ((f.compared p).same whole)

-- the first of the passes whose receipts part
pub differs_here : (n : ℕ) (passes : List Pass) (history : List Entry) (cursors : List Cursor) (k : ℕ) (c : Cursor) (p : Pass) → AllFollow n passes history (length history) cursors → k < n → AllSettled k passes history → Follows passes history (length history) k c → PartAt c.matched (get_or passes c.at p).receipts (mine k history)
    → IsDiffering n passes history k c.matched
differs_here n passes history cursors k c p all lt before f part =
    record {
      all_here = none_missing n passes history (length history) cursors c p all;
      in_range = lt;
      first = before;
      receipts = (get_or passes c.at p).receipts;
      of_pass = f.of_pass p;
      part = part;
    }
