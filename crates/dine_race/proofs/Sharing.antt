-- How many entries of a history are those of passes. Where they are as many as the history has, each entry is one of them.
use Rattle.std.proofs.Common.{◌≡◌, ℕ, zero, suc, ◌+◌, ◌<◌, ◌≤◌, ◌==◌, Bool, true, false, cond, List, [], ◌∷◌, length, slice_get, Some, None, refl, ap, ◌∙◌, arith}
use Rattle.std.proofs.lemmas.Bool.Decides.{nat_tests}
use Rattle.dine_words.specs.declared.call.Call.{Call}
use Rattle.dine_words.specs.declared.entry.Entry.{Entry}
use Rattle.dine_journal.specs.declared.hall.Answer.{Answer}
use Rattle.dine_front.specs.Mine.{kept_if, mine_from, receipt_for}
use Rattle.dine_race.proofs.Setups.{some_same}

-- 1 for an entry of pass k
own : ℕ → Entry → ℕ
own k e = cond (e.pass == k) 1 0

-- the entries of pass k
pub count : ℕ → List Entry → ℕ
count k [] = 0
count k (e ∷ es) = own k e + count k es

-- a list that may have one more in front is longer by that
length-kept_if : (b : Bool) (r : Call × Answer) (rs : List (Call × Answer)) → length (kept_if b r rs) ≡ cond b 1 0 + length rs
length-kept_if true r rs = omega arith
length-kept_if false r rs = omega arith

-- there is a receipt for each of them
pub count-mine : (k place : ℕ) (es : List Entry) → length (mine_from k place es) ≡ count k es
unfolding own count
count-mine k place [] = refl
count-mine k place (e ∷ es) =
    length-kept_if (e.pass == k) (receipt_for place e) (mine_from k (place + 1) es) ∙ ap (λ (n : ℕ). own k e + n) (count-mine k (place + 1) es)

-- 1 for an entry of one of the passes k, k + 1, .., n of them
own_from : ℕ → ℕ → Entry → ℕ
own_from k zero e = 0
own_from k (suc n) e = own k e + own_from (k + 1) n e

-- the entries of these passes
unfoldable pub count_from : ℕ → ℕ → List Entry → ℕ
count_from k zero es = 0
count_from k (suc n) es = count k es + count_from (k + 1) n es

-- no entries are nobody's
count_from-nil : (k n : ℕ) → count_from k n [] ≡ 0
unfolding count count_from
count_from-nil k zero = refl
count_from-nil k (suc n) = let rest = count_from-nil (k + 1) n in omega (arith, rest)

-- the entries of passes are those of the rest, and the first one if it is theirs
count_from-cons : (k n : ℕ) (e : Entry) (es : List Entry) → count_from k n (e ∷ es) ≡ own_from k n e + count_from k n es
unfolding count count_from own_from
count_from-cons k zero e es = refl
count_from-cons k (suc n) e es =
    let rest = count_from-cons (k + 1) n e es in
    omega (arith, rest)

-- whether an entry is a pass's own, as a number
own-is : (k : ℕ) (e : Entry) (b : Bool) → (e.pass == k) ≡ b → own k e ≡ cond b 1 0
unfolding own
own-is k e b is = ap (λ (x : Bool). cond x 1 0) is

-- an entry of an earlier pass is none of them
own_from-earlier : (k n : ℕ) (e : Entry) → e.pass < k → own_from k n e ≡ 0
unfolding own_from
own_from-earlier k zero e low = refl
own_from-earlier k (suc n) e low =
    let rest = own_from-earlier (k + 1) n e (omega arith) in
    let other : (e.pass == k) ≡ false = grind (arith, nat_tests) in
    let none : own k e ≡ 0 = own-is k e false other in
    omega (arith, rest, none)

-- an entry is one of them once at most, and where it is, its pass is one of these
record Once (k n : ℕ) (e : Entry) : Type 0 where
  most : own_from k n e ≤ 1
  among : 0 < own_from k n e → e.pass < k + n

-- an entry is the own of one pass at most
once : (k n : ℕ) (e : Entry) → Once k n e
unfolding own_from
once k zero e = record { most = omega arith; among = λ some. absurd (omega arith) }
once k (suc n) e = by (e.pass == k) refl (once (k + 1) n e)
  where
    by : (b : Bool) → (e.pass == k) ≡ b → Once (k + 1) n e → Once k (suc n) e
    by true is rest =
        let one : own k e ≡ 1 = own-is k e true is in
        let same : e.pass ≡ k = grind (arith, nat_tests) in
        let none = own_from-earlier (k + 1) n e (omega arith) in
        record { most = omega (arith, one, none); among = λ some. omega arith }
    by false is rest =
        let none : own k e ≡ 0 = own-is k e false is in
        let most = rest.most in
        record { most = omega (arith, none, most); among = λ some. let low = rest.among (omega (arith, none)) in omega arith }

-- they are no more than there are entries
count_from-most : (k n : ℕ) (es : List Entry) → count_from k n es ≤ length es
count_from-most k n [] = let none = count_from-nil k n in omega (arith, none)
count_from-most k n (e ∷ es) =
    let split = count_from-cons k n e es in
    let first = (once k n e).most in
    let rest = count_from-most k n es in
    omega (arith, split, first, rest)

-- nothing is no value
none_is_not_some : {A : Type 0} (x : A) → None ≡ Some x → ⊥
none_is_not_some x e = cc

-- where they are as many as there are entries, each entry is one of them
pub each_among : (k n : ℕ) (es : List Entry) (i : ℕ) (e : Entry) → length es ≤ count_from k n es → slice_get es i ≡ Some e → e.pass < k + n
each_among k n [] i e all at = absurd (none_is_not_some e at)
each_among k n (x ∷ es) zero e all at =
    let split = count_from-cons k n x es in
    let rest = count_from-most k n es in
    let low : x.pass < k + n = (once k n x).among (omega (arith, split, rest)) in
    let same : x.pass ≡ e.pass = ap (λ (y : Entry). y.pass) (some_same x e at) in
    omega arith
each_among k n (x ∷ es) (suc i) e all at =
    let split = count_from-cons k n x es in
    let first = (once k n x).most in
    each_among k n es i e (omega (arith, split, first)) at
