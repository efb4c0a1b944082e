-- From the mask of one load to the bytes at the front of a text that pass a test.
use Rattle.std.proofs.Common.{◌≡◌, ℕ, zero, suc, ◌+◌, ◌-◌, ◌%◌, ◌^◌, ◌<◌, ◌≤◌, Bool, true, false, not, List, [], ◌∷◌, ◌++◌, cond, nat_lt, map, length, take, get_or, replicate, Fits, w8, refl, sym, ap, ap₂, ◌∙◌, subst, arith, inl, inr}
use Rattle.std.proofs.lemmas.Bool.{agree_below, agree_below_at, not-true, not-false, cases_eq, cases_lt, eq-eqb, ne_eqb, cond-true, cond-false}
use Rattle.std.proofs.lemmas.Bool.Decides.{nat_tests}
use Rattle.std.proofs.lemmas.List.{get_or-take, length-map, length-take-le}
use Rattle.std.proofs.lemmas.List.Elements.{All-from_get_or}
use Rattle.std.proofs.lemmas.List.Sums.{list_all-from_AllPass, prefix_len-le-length, prefix_len_passes, prefix_len_stops}
use Rattle.std.proofs.lemmas.Simd.{map-map, mask_l-mod, length-chunk, get_or-chunk, leading_from_mask_l, trailing_mask_l}
use Rattle.std.specs.List.{prefix_len, list_all}
use lib.Lanes.{chunk, sel_l, zip2, mask_l, top}
use Rattle.dine_lines.specs.Runs.{AllPassIn, IsRunIn, first_bit}

-- two vectors that were computed lane by lane from the same one
zip2-map : (h : ℕ → ℕ → ℕ) (f g : ℕ → ℕ) (xs : List ℕ) → zip2 h (map f xs) (map g xs) ≡ map (λ x. h (f x) (g x)) xs
zip2-map h f g [] = refl
zip2-map h f g (x ∷ xs) = ap (λ r. h (f x) (g x) ∷ r) (zip2-map h f g xs)

-- an operation on two such vectors
pub joined : (h : ℕ → ℕ → ℕ) (f g : ℕ → ℕ) (v : List ℕ) {a b : List ℕ} → a ≡ map f v → b ≡ map g v → zip2 h a b ≡ map (λ x. h (f x) (g x)) v
joined h f g v p q = ap₂ (zip2 h) p q ∙ zip2-map h f g v

-- one number in all lanes
pub splat_is : (v : List ℕ) (n y : ℕ) → length v ≡ n → replicate n y ≡ map (λ _. y) v
splat_is [] n y e = ap (λ k. replicate k y) (sym e)
splat_is (x ∷ xs) n y e = ap (λ k. replicate k y) (sym e) ∙ ap (λ r. y ∷ r) (splat_is xs (length xs) y refl)

-- the lowest bit of a mask is at the first lane that stops
run_is : (p : ℕ → Bool) (v : List ℕ) (n : ℕ) → length v ≡ n → n ≤ 64 → first_bit (mask_l (map p v)) n ≡ prefix_len (λ x. not (p x)) v
run_is p v n long few =
    elim (cases_eq (mask_l (map p v)) 0) [
      | inl none ↦ cond-true _ _ _ (eq-eqb _ _ none) ∙ sym (leading_from_mask_l p v none ∙ long)
      | inr some ↦ cond-false _ _ _ (ne_eqb _ _ some) ∙ trailing_mask_l p 64 v (omega arith) (omega arith)
    ]

module _ (q : ℕ → Bool) (d : List ℕ) (n r : ℕ) (z : List ℕ) (room : n ≤ length d) (few : n ≤ 64)
    (fits : (k : ℕ) → Fits w8 (get_or d k 0)) (found : r ≡ first_bit (mask_l (map (top 7) z) % 2 ^ 64) n)
    (f : ℕ → ℕ) (lanes : z ≡ map f (chunk 0 n d)) where
  abbrev stops : ℕ → Bool
  stops x = top 7 (f x)

  long : length (chunk 0 n d) ≡ n
  long = length-chunk 0 n d (omega arith)

  -- the run ends before the first lane that stops
  counted : r ≡ prefix_len (λ x. not (stops x)) (chunk 0 n d)
  counted =
      let v = chunk 0 n d in
      let mask = ap (λ l. mask_l l % 2 ^ 64) (ap (map (top 7)) lanes ∙ map-map (top 7) f v) ∙ mask_l-mod (map stops v) 64 (omega (arith, length-map v stops, long)) in
      found ∙ ap (λ m. first_bit m n) mask ∙ run_is stops v n long few

  -- no lane of the run stops
  goes_on : (k : ℕ) → k < r → stops (get_or d k 0) ≡ false
  goes_on k to =
      let bound = prefix_len-le-length (λ x. not (stops x)) (chunk 0 n d) in
      let here : 0 + k ≡ k = omega arith in
      let at = get_or-chunk 0 n d k 0 (omega (arith, counted, long)) ∙ ap (λ j. get_or d j 0) here in
      subst (λ x. stops x ≡ false) at (not-true _ (prefix_len_passes (λ x. not (stops x)) (chunk 0 n d) k 0 (omega (arith, counted))))

  -- a lane stops just where the test fails
  pub run_in : agree_below stops (λ x. not (q x)) 256 ≡ true → IsRunIn q d n r
  run_in all = (
    omega (arith, counted, long, prefix_len-le-length (λ x. not (stops x)) (chunk 0 n d)),
    λ k to. not-false _ (sym (agree_below_at stops (λ x. not (q x)) 256 (get_or d k 0) all (fits k).fits) ∙ goes_on k to),
    λ short.
        let here : 0 + r ≡ r = omega arith in
        let at = ap (λ j. get_or (chunk 0 n d) j 0) (sym counted) ∙ get_or-chunk 0 n d r 0 short ∙ ap (λ j. get_or d j 0) here in
        let set = subst (λ x. stops x ≡ true) at (not-false _ (prefix_len_stops (λ x. not (stops x)) (chunk 0 n d) 0 (omega (arith, counted, long)))) in
        not-true _ (sym (agree_below_at stops (λ x. not (q x)) 256 (get_or d r 0) all (fits r).fits) ∙ set),
  )

-- all bytes of the run pass the test
pub all_in : (q : ℕ → Bool) (d : List ℕ) (r : ℕ) → r ≤ length d → AllPassIn q d r → list_all q (take r d) ≡ true
all_in q d r inside pass =
    let long = length-take-le r d inside in
    list_all-from_AllPass q (take r d) (All-from_get_or (λ x. q x ≡ true) (take r d) 0 (λ k within. subst (λ x. q x ≡ true) (sym (get_or-take r d k 0 (omega (arith, long)))) (pass k (omega (arith, long)))))

-- ---- the first lanes

-- which lanes from a place on stand before another place
abbrev pub before : ℕ → ℕ → ℕ → List Bool
before place zero len = []
before place (suc lanes) len = top 7 (cond (nat_lt place len) 255 0) ∷ before (suc place) lanes len

-- the bytes in those lanes, and zeros in the others
pub first_lanes : (lanes place len : ℕ) (text : List ℕ) → len ≤ place + lanes → lanes ≤ length text → sel_l (before place lanes len) (take lanes text) (replicate lanes 0) ≡ take (len - place) text ++ replicate (lanes - (len - place)) 0
first_lanes zero place len text few room = let none : len - place ≡ 0 = omega arith in rw none refl
first_lanes (suc lanes) place len [] few room = absurd (omega arith)
first_lanes (suc lanes) place len (byte ∷ text) few room = elim (cases_lt place len) [
  | inl low ↦
      let is : nat_lt place len ≡ true = grind (arith, nat_tests, low) in
      let more : len - place ≡ suc (len - suc place) = omega (arith, low) in
      let fewer : suc lanes - suc (len - suc place) ≡ lanes - (len - suc place) = omega arith in
      rw (is, more, fewer) (ap (λ bytes. byte ∷ bytes) (first_lanes lanes (suc place) len text (omega arith) (omega arith)))
  | inr high ↦
      let is : nat_lt place len ≡ false = grind (arith, nat_tests, high) in
      let none : len - place ≡ 0 = omega (arith, high) in
      let none_more : len - suc place ≡ 0 = omega (arith, high) in
      let zeros : sel_l (before (suc place) lanes len) (take lanes text) (replicate lanes 0) ≡ replicate lanes 0 =
      first_lanes lanes (suc place) len text (omega arith) (omega arith) ∙ rw none_more (ap (λ n. replicate n 0) (omega arith)) in
      let all : suc lanes - 0 ≡ suc lanes = omega arith in
      rw (is, none, all) (ap (λ bytes. 0 ∷ bytes) zeros)
]
