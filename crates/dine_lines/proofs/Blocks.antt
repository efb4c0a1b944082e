-- From the lanes of a vector to the bytes of a block.
use Rattle.std.proofs.Common.{◌≡◌, ℕ, ◌+◌, ◌-◌, ◌%◌, ◌^◌, ◌<◌, ◌≤◌, Bool, true, false, not, eqb, ltb, leb, List, length, map, cond, get_or, drop, replicate, w8, refl, sym, ap, ◌∙◌, subst, arith, inl, inr}
use Rattle.std.proofs.lemmas.Bool.{cases_lt, not-true, not-false, eqb-true, ltb-true, ltb-false, le-leb}
use Rattle.std.proofs.lemmas.Simd.{length-chunk, get_or-chunk, length-sel_l, get_or-sel_l, tops_compared, get_or-zip2, length-zip2, zip2_splat, mask_l-mod, leading_from_mask_l}
use Rattle.std.proofs.lemmas.List.{length-map, get_or-map, length-drop, get_or-drop}
use Rattle.std.proofs.lemmas.List.Sums.{prefix_len_passes}
use lib.Lanes.{chunk, zip2, sel_l, mask_l, top}
use Rattle.memchr.specs.Find.{NoneBefore, Nowhere, Passes, is_byte}
use Rattle.dine_lines.specs.Blocks.{AllAbove, Bounds, no_line_feed}
use Rattle.dine_lines.specs.Runs.{IsRunIn}

-- a byte above a line feed is none
above_is_none : (x : ℕ) → 10 < x → eqb x 10 ≡ true → ⊥
above_is_none x above is = absurd (omega (arith, eqb-true x 10 is))

-- the lanes of one load
pub bounds_chunk : (text : List ℕ) (at : ℕ) → at + 16 ≤ length text → Bounds (chunk at 16 text) text at (at + 16)
bounds_chunk text at room = (
  length-chunk at 16 text room,
  λ above k from to.
      let back : at + (k - at) ≡ k = omega arith in
      above_is_none _ (subst (λ x. 10 < x) (get_or-chunk at 16 text (k - at) 0 (omega arith) ∙ ap (λ i. get_or text i 0) back) (above (k - at) (omega arith))),
)

-- what is below the lesser of two numbers is below both
both_above : (x y : ℕ) (b : Bool) → ltb x y ≡ b → 10 < cond b x y → (10 < x) × (10 < y)
both_above x y true is above = (above, omega (arith, ltb-true x y is))
both_above x y false is above = (omega (arith, ltb-false x y is), above)

module _ (a b : List ℕ) (first : length a ≡ 16) (second : length b ≡ 16) where
  -- the lesser of each two lanes
  abbrev pub lesser : List ℕ
  lesser = sel_l (map (top 7) (zip2 (λ x y. cond (ltb x y) 255 0) a b)) a b

  long_less : length (zip2 ltb a b) ≡ 16
  long_less = length-zip2 ltb a b (first ∙ sym second) ∙ first

  same : lesser ≡ sel_l (zip2 ltb a b) a b
  same = ap (λ ms. sel_l ms a b) (tops_compared w8 ltb a b)

  chosen : (lane : ℕ) → lane < 16 → get_or lesser lane 0 ≡ cond (ltb (get_or a lane 0) (get_or b lane 0)) (get_or a lane 0) (get_or b lane 0)
  chosen lane small =
      ap (λ l. get_or l lane 0) same
      ∙ get_or-sel_l (zip2 ltb a b) a b lane 0 (omega (arith, long_less)) (omega (arith, first)) (omega (arith, second))
      ∙ ap (λ t. cond t (get_or a lane 0) (get_or b lane 0)) (get_or-zip2 ltb a b lane 0 0 false (omega (arith, first)) (omega (arith, second)))

  -- there are sixteen of them, as of the bytes of each vector
  pub length-lesser : length lesser ≡ 16
  length-lesser = ap length same ∙ length-sel_l (zip2 ltb a b) a b (long_less ∙ sym first) (long_less ∙ sym second) ∙ long_less

  -- where the lesser ones are above, both vectors are
  pub lesser_above : AllAbove lesser → AllAbove a × AllAbove b
  lesser_above above =
      let both : (lane : ℕ) → lane < 16 → (10 < get_or a lane 0) × (10 < get_or b lane 0)
      = λ lane small. both_above _ _ _ refl (subst (λ x. 10 < x) (chosen lane small) (above lane small)) in
      (λ lane small. (both lane small).0, λ lane small. (both lane small).1)

-- a lane of which no bit is set is above
clear_above : (x : ℕ) → top 7 (cond (leb x 10) 255 0) ≡ false → 10 < x
clear_above x clear = elim (cases_lt 10 x) [
  | inl above ↦ above
  | inr low ↦ let set : true ≡ false = ap (λ b. top 7 (cond b 255 0)) (sym (le-leb x 10 low)) ∙ clear in cc
]

-- all lanes are above a line feed where the mask of those that aren't has no bit
pub above_from_mask : (v : List ℕ) → length v ≡ 16 → eqb (mask_l (map (top 7) (zip2 (λ x y. cond (leb x y) 255 0) v (replicate 16 10))) % 2 ^ 64) 0 ≡ true → AllAbove v
above_from_mask v long none lane small =
    let low : ℕ → ℕ = λ x. cond (leb x 10) 255 0 in
    let z = map low v in
    let long_z = length-map v low ∙ long in
    let mask = ap (λ l. mask_l (map (top 7) l) % 2 ^ 64) (zip2_splat (λ x y. cond (leb x y) 255 0) v 16 10 long) ∙ mask_l-mod (map (top 7) z) 64 (omega (arith, length-map z (top 7), long_z)) in
    let whole = leading_from_mask_l (top 7) z (sym mask ∙ eqb-true _ 0 none) in
    let clear = not-true _ (prefix_len_passes (λ x. not (top 7 x)) z lane 0 (omega (arith, whole, long_z))) in
    clear_above (get_or v lane 0) (ap (top 7) (sym (get_or-map low v lane 0 0 (omega (arith, long)))) ∙ clear)

-- a run of other bytes that ends before its most ends at the first line feed
pub first_in_run : (text : List ℕ) (most run : ℕ) → most ≤ length text → IsRunIn no_line_feed text most run → run < most → NoneBefore (Passes (is_byte 10) text) 0 (length text) run × Passes (is_byte 10) text run
first_in_run text most run inside found short = (
  record {
    low = omega arith;
    high = omega arith;
    before = λ i low early passes. let no : not true ≡ true = ap not (sym passes) ∙ found.1 i early in cc;
  },
  not-false _ (found.2 short),
)

module _ (test : ℕ → Bool) (text : List ℕ) where
  -- what stands first after a place up to which nothing passes the test stands first in the text
  pub first_after : (n k : ℕ) → n ≤ length text → Nowhere (Passes test text) 0 n → NoneBefore (Passes test (drop n text)) 0 (length (drop n text)) k × Passes test (drop n text) k → NoneBefore (Passes test text) 0 (length text) (n + k) × Passes test text (n + k)
  first_after n k inside none found =
      let long = length-drop n text in
      let high = found.0.high in
      let later : (i : ℕ) → n ≤ i → get_or (drop n text) (i - n) 0 ≡ get_or text i 0
      = λ i h. get_or-drop n text (i - n) 0 ∙ ap (λ j. get_or text j 0) (omega arith) in (
        record {
          low = omega arith;
          high = omega (arith, long, high);
          before = λ i low short passes. elim (cases_lt i n) [
            | inl early ↦ none i low early passes
            | inr late ↦ found.0.before (i - n) (omega arith) (omega arith) (ap test (later i late) ∙ passes)
          ];
        },
        ap test (sym (get_or-drop n text k 0)) ∙ found.1,
      )

  -- where nothing does after it, nothing in the text does
  pub nowhere_after : (n : ℕ) → n ≤ length text → Nowhere (Passes test text) 0 n → Nowhere (Passes test (drop n text)) 0 (length (drop n text)) → Nowhere (Passes test text) 0 (length text)
  nowhere_after n inside none rest i low short passes = elim (cases_lt i n) [
    | inl early ↦ none i low early passes
    | inr late ↦
        let there : n + (i - n) ≡ i = omega arith in
        let at = get_or-drop n text (i - n) 0 ∙ ap (λ j. get_or text j 0) there in
        rest (i - n) (omega arith) (omega (arith, length-drop n text)) (ap test at ∙ passes)
  ]
