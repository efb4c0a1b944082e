-- How the bits of a set of slots follow its changes, and what the first bit that is set tells.
use Rattle.std.proofs.Common.{◌≡◌, ◌≢◌, ℕ, zero, suc, ◌+◌, ◌-◌, ◌*◌, ◌/◌, ◌%◌, ◌^◌, ◌==◌, ◌<◌, ◌≤◌, Bool, true, false, not, List, length, get_or, set, drop, replicate, min, bit_and, bit_or, w64, refl, sym, ap, ◌∙◌, inl, inr, subst, arith, length-set, get_or-set_same, get_or-set_other}
use Rattle.std.specs.Int.{bit_at, bit_not, trailing_zeros}
use Rattle.std.specs.Int.Count.{trailing_of_zero}
use Rattle.std.specs.List.{prefix_len}
use Rattle.std.proofs.lemmas.Bool.{cases_eq, cases_lt, ne_eqb, eq-eqb, eqb-true}
use Rattle.std.proofs.lemmas.List.{get_or-drop, get_or-replicate, get_or_past, length-drop, length-replicate}
use Rattle.std.proofs.lemmas.List.FromFn.{fill_by_all, get_or-map-range_with_len, length-map-range_with_len}
use Rattle.std.proofs.lemmas.List.Sums.{prefix_len_is}
use Rattle.std.proofs.lemmas.Nat.Bits.{bit_at-zero, bit_at-lt, bit_at-suc, bit_at_lowest, bit_at_and, bit_at-trailing_zeros, bit_at_mask_inside, bit_at_mask_below, bit_at_set_same, bit_at_set_other, bit_at_clear_same, bit_at_clear_other, same_from_bits_below, ones_shl}
use Rattle.std.proofs.lemmas.Nat.{and_le_l, and_le_r}
use Rattle.std.proofs.lemmas.Grind.{get_or_default_zero}
use Rattle.dine_forks.specs.SlotSets.{AreMembers, AreWords, IsFirstSet, MarksWords, bit_in, members_of, first_member}
use Rattle.dine_forks.specs.declared.slot_set.SlotSet.TheInside.{Inside}

-- words in which the bit of one place was put to a digit
pub record IsPut (words : List ℕ) (place : ℕ) (digit : ℕ) (after : List ℕ) : Type 0 where
  pub len : length after ≡ length words
  pub here : bit_in after place ≡ digit
  pub others : (other : ℕ) → other ≢ place → bit_in after other ≡ bit_in words other
  pub words_stay : (word : ℕ) → word ≢ place / 64 → get_or after word 0 ≡ get_or words word 0

module _ (words : List ℕ) (place : ℕ) (within : place / 64 < length words) where
  -- a word that has the digit at the place, and else the bits of before, is put in
  put : (word digit : ℕ) → bit_at word (place % 64) ≡ digit → ((i : ℕ) → i < 64 → i ≢ place % 64 → bit_at word i ≡ bit_at (get_or words (place / 64) 0) i) → IsPut words place digit (set words (place / 64) word)
  put word digit here kept = record {
    len = length-set words _ _;
    here = ap (λ n. bit_at n (place % 64)) (get_or-set_same words (place / 64) word 0 within) ∙ here;
    others = λ other differs. elim (cases_eq (other / 64) (place / 64)) [
      | inl same ↦ rw (same, get_or-set_same words (place / 64) word 0 within) (kept (other % 64) (omega arith) (λ index. differs (omega arith)))
      | inr apart ↦ ap (λ n. bit_at n (other % 64)) (get_or-set_other words (place / 64) (other / 64) word 0 apart)
    ];
    words_stay = λ other apart. get_or-set_other words (place / 64) other word 0 apart;
  }

  -- the bit of a place is set
  pub put-set : IsPut words place 1 (set words (place / 64) (bit_or (get_or words (place / 64) 0) (1 * 2 ^ (place % 64) % 2 ^ 64)))
  put-set = put _ 1 (bit_at_set_same w64 (get_or words (place / 64) 0) (place % 64) (omega arith)) (λ i below differs. bit_at_set_other w64 (get_or words (place / 64) 0) (place % 64) (omega arith) i differs)

  -- the bit of a place is cleared
  pub put-clear : IsPut words place 0 (set words (place / 64) (bit_and (get_or words (place / 64) 0) (bit_not w64 (1 * 2 ^ (place % 64) % 2 ^ 64))))
  put-clear = put _ 0 (bit_at_clear_same w64 (get_or words (place / 64) 0) (place % 64) (omega arith)) (λ i below differs. bit_at_clear_other w64 (get_or words (place / 64) 0) (place % 64) (omega arith) i below differs)

-- ---- the members by their bits

-- whether a slot is a member
members-at : (slots : ℕ) (words : List ℕ) (slot : ℕ) → slot < slots → get_or (members_of slots words) slot false ≡ (bit_in words slot == 1)
members-at slots words slot lt = get_or-map-range_with_len (λ k. bit_in words k == 1) 0 slots slot slot false lt (omega arith)

-- there is an answer for each slot
length-members : (slots : ℕ) (words : List ℕ) → length (members_of slots words) ≡ slots
length-members slots words = length-map-range_with_len (λ k. bit_in words k == 1) 0 slots

-- a bit that is put makes its slot a member, or ends that
members-put : (slots : ℕ) (words after : List ℕ) (slot digit : ℕ) → slot < slots → IsPut words slot digit after → members_of slots after ≡ set (members_of slots words) slot (digit == 1)
members-put slots words after slot digit lt put =
    sym (fill_by_all (λ k. bit_in after k == 1) (set (members_of slots words) slot (digit == 1)) slots false (length-set (members_of slots words) slot (digit == 1) ∙ length-members slots words) (λ k below. elim (cases_eq k slot) [
      | inl same ↦ rw (same, get_or-set_same (members_of slots words) slot (digit == 1) false (let l = length-members slots words in omega arith)) (ap (λ n. n == 1) (sym put.here))
      | inr apart ↦ get_or-set_other (members_of slots words) slot k (digit == 1) false apart ∙ members-at slots words k below ∙ ap (λ n. n == 1) (sym (put.others k apart))
    ]))

-- so many words of 0
abbrev pub no_words : ℕ → List ℕ
no_words n = replicate n 0

-- each of them is 0, and so is what stands behind them
zero_word : (n k : ℕ) → get_or (no_words n) k 0 ≡ 0
zero_word zero k = refl
zero_word (suc n) zero = refl
zero_word (suc n) (suc k) = zero_word n k

-- so no slot is a member
pub members_none : (slots n : ℕ) → members_of slots (no_words n) ≡ replicate slots false
members_none slots n =
    sym (fill_by_all (λ k. bit_in (no_words n) k == 1) (replicate slots false) slots false (length-replicate slots false) (λ k below. get_or-replicate slots k false false below ∙ ap (λ b. b == 1) (sym (ap (λ w. bit_at w (k % 64)) (zero_word n (k / 64)) ∙ bit_at-zero (k % 64)))))

-- a list is all true where each of its places is
pub all-true : (xs : List Bool) (n : ℕ) → length xs ≡ n → ((k : ℕ) → k < n → get_or xs k false ≡ true) → xs ≡ replicate n true
all-true xs n len each =
    fill_by_all (λ k. true) xs n false len each ∙ sym (fill_by_all (λ k. true) (replicate n true) n false (length-replicate n true) (λ k below. get_or-replicate n k true false below))

-- ---- the first bit that is set

-- where a search by the bits comes to, it comes to the first member
first_member-is : (slots : ℕ) (words : List ℕ) (from found : ℕ) → IsFirstSet (bit_in words) from slots found → found ≡ first_member from (members_of slots words)
first_member-is slots words from found first =
    let members = members_of slots words in let len = length-members slots words in let rest = length-drop from members in
    let lo = first.from_there in let hi = first.within in
    let at : (j digit : ℕ) → from + j < slots → bit_in words (from + j) ≡ digit → get_or (drop from members) j false ≡ (digit == 1) = λ j digit lt is. get_or-drop from members j false ∙ members-at slots words (from + j) lt ∙ ap (λ n. n == 1) is in
    let back : found ≡ from + (found - from) = omega arith in
    let stop : prefix_len not (drop from members) ≡ found - from = prefix_len_is not (drop from members) (found - from) false (omega arith)
    (λ j less. ap not (at j 0 (omega arith) (first.before (from + j) (omega arith) (omega arith))))
    (λ less. ap not (at (found - from) 1 (omega arith) (ap (bit_in words) (sym back) ∙ first.here (omega arith)))) in
    omega arith

module _ (word from : ℕ) where
  -- what a mask leaves of a word: its bits from one on
  abbrev left : ℕ
  left = bit_and word (2 ^ 64 - 2 ^ from)

  -- the mask leaves each bit from there on
  kept-bit : (i : ℕ) → from ≤ i → i < 64 → bit_at left i ≡ bit_at word i
  kept-bit i lo hi = let digit = bit_at-lt word i in bit_at_and word (2 ^ 64 - 2 ^ from) i ∙ ap (min (bit_at word i)) (bit_at_mask_inside from 64 i lo hi) ∙ omega arith

  -- the first bit that is set, of those from one on, stands behind the zeros of what the mask leaves
  pub first_bit_is : word < 2 ^ 64 → from < 64 → IsFirstSet (bit_at word) from 64 (trailing_zeros w64 (bit_and word ((2 ^ 64 - 1) * 2 ^ from % 2 ^ 64)))
  first_bit_is fits lt = subst (λ mask. IsFirstSet (bit_at word) from 64 (trailing_zeros w64 (bit_and word mask))) (sym (ones_shl 64 from (omega arith))) (elim (cases_eq left 0) [
    | inl nothing ↦ subst (λ t. IsFirstSet (bit_at word) from 64 t) (sym (ap (trailing_zeros w64) nothing ∙ trailing_of_zero 64)) record {
      from_there = omega arith;
      within = omega arith;
      before = λ i lo hi. sym (kept-bit i lo hi) ∙ ap (λ n. bit_at n i) nothing ∙ bit_at-zero i;
      here = λ below. absurd (omega arith);
    }
    | inr some ↦
        let small : left ≤ word = and_le_l word (2 ^ 64 - 2 ^ from) in
        let lowest = bit_at-trailing_zeros w64 left (omega arith) (omega arith) in
        let within : trailing_zeros w64 left < 64 = lowest.0 in
        let reached : from ≤ trailing_zeros w64 left = elim (cases_lt (trailing_zeros w64 left) from) [
          | inl early ↦ absurd (let wrong : 0 ≡ 1 = sym (bit_at_and word (2 ^ 64 - 2 ^ from) (trailing_zeros w64 left) ∙ ap (min (bit_at word (trailing_zeros w64 left))) (bit_at_mask_below from 64 (trailing_zeros w64 left) early) ∙ omega arith) ∙ lowest.1 in omega arith)
          | inr late ↦ late
        ] in
        record {
          from_there = reached;
          within = omega arith;
          before = λ i lo hi. sym (kept-bit i lo (omega arith)) ∙ lowest.2 i hi;
          here = λ below. sym (kept-bit (trailing_zeros w64 left) reached below) ∙ lowest.1;
        }
  ])

-- the bit of a place, by its word
bit-of_word : (words : List ℕ) (word place : ℕ) → 64 * word ≤ place → place < 64 * word + 64 → bit_in words place ≡ bit_at (get_or words word 0) (place - 64 * word)
bit-of_word words word place lo hi =
    let quotient : place / 64 ≡ word = omega arith in
    let rest : place % 64 ≡ place - 64 * word = omega arith in
    ap (λ q. bit_at (get_or words q 0) (place % 64)) quotient ∙ ap (bit_at (get_or words word 0)) rest

module _ (words : List ℕ) (from word skipped bit : ℕ) (before : (place : ℕ) → from ≤ place → place < 64 * word + skipped → bit_in words place ≡ 0) (first : IsFirstSet (bit_at (get_or words word 0)) skipped 64 bit) where
  -- no bit is set before the first one of the word
  before_bit : (place : ℕ) → from ≤ place → place < 64 * word + bit → bit_in words place ≡ 0
  before_bit place lo hi = elim (cases_lt place (64 * word + skipped)) [
    | inl early ↦ before place lo early
    | inr late ↦ bit-of_word words word place (omega arith) (omega (arith, first.within)) ∙ first.before (place - 64 * word) (omega arith) (omega arith)
  ]

  -- a word with one ends the search
  pub word-found : bit < 64 → from ≤ 64 * word + skipped → word < length words → IsFirstSet (bit_in words) from (64 * length words) (64 * word + bit)
  word-found some reach lt = record {
    from_there = omega (arith, first.from_there);
    within = omega arith;
    before = before_bit;
    here = λ below. let inside : 64 * word + bit - 64 * word ≡ bit = omega arith in bit-of_word words word (64 * word + bit) (omega arith) (omega arith) ∙ ap (bit_at (get_or words word 0)) inside ∙ first.here some;
  }

-- ---- what a set keeps true

module _ (s : Inside) {now : List Bool} (is : members_of s.slots s.words.items ≡ now) (kept : MarksWords s.slots s.words.items s.marks.items) where
  -- where a slot's bits are
  pub record HasBits (slot : ℕ) : Type 0 where
    pub below : slot < s.slots
    pub word : slot / 64 < length s.words.items
    pub mark : slot / 64 / 64 < length s.marks.items

  -- the set is seen with as many slots as it has
  slots_are : length now ≡ s.slots
  slots_are = sym (ap length is) ∙ length-members s.slots s.words.items

  -- each slot has its bits there
  pub has_bits : (slot : ℕ) → slot < length now → HasBits slot
  has_bits slot lt =
      let slots = slots_are in
      let room = kept.room in
      let room_of_marks = kept.room_of_marks in
      record { below = omega arith; word = omega arith; mark = omega arith }

  module _ (slot : ℕ) (lt : slot < length now) where
    -- a bit is put, and the mark of its word tells whether that is 0 now
    marked-put : (digit told : ℕ) (after marks_after : List ℕ) → IsPut s.words.items slot digit after → IsPut s.marks.items (slot / 64) told marks_after → (told == 0) ≡ (get_or after (slot / 64) 0 == 0) → MarksWords s.slots after marks_after
    marked-put digit told after marks_after put mark tells =
        let words = put.len in
        let marks = mark.len in
        let below = (has_bits slot lt).below in
        record {
          room = let room = kept.room in omega arith;
          room_of_marks = let room = kept.room_of_marks in omega arith;
          small = let small = kept.small in omega arith;
          small_marks = let small = kept.small_marks in omega arith;
          none_behind = λ place h. put.others place (λ e. omega arith) ∙ kept.none_behind place h;
          no_marks_behind = λ word h. mark.others word (λ e. omega arith) ∙ kept.no_marks_behind word h;
          marked = λ place. elim (cases_eq place (slot / 64)) [
            | inl same ↦ rw same (ap (λ d. d == 0) mark.here ∙ tells)
            | inr apart ↦ ap (λ d. d == 0) (mark.others place apart) ∙ kept.marked place ∙ ap (λ w. w == 0) (sym (put.words_stay place apart))
          ];
        }

    module _ (w : ℕ) (read : w ≡ get_or s.words.items (slot / 64) w) where
      -- the word that was read
      word : w ≡ get_or s.words.items (slot / 64) 0
      word = read ∙ get_or_default_zero s.words.items (slot / 64) w (has_bits slot lt).word

      -- the slot's bit is set in it
      set_word : IsPut s.words.items slot 1 (set s.words.items (slot / 64) (bit_or w (1 * 2 ^ (slot % 64) % 2 ^ 64)))
      set_word = subst (λ n. IsPut s.words.items slot 1 (set s.words.items (slot / 64) (bit_or n (1 * 2 ^ (slot % 64) % 2 ^ 64)))) (sym word) (put-set s.words.items slot (has_bits slot lt).word)

      -- the word isn't 0 then
      set_some : get_or (set s.words.items (slot / 64) (bit_or w (1 * 2 ^ (slot % 64) % 2 ^ 64))) (slot / 64) 0 ≢ 0
      set_some e = let off : bit_in (set s.words.items (slot / 64) (bit_or w (1 * 2 ^ (slot % 64) % 2 ^ 64))) slot ≡ 0 = ap (λ n. bit_at n (slot % 64)) e ∙ bit_at-zero (slot % 64) in let on = set_word.here in omega arith

      -- a slot is put in
      pub insert-kept : (v : ℕ) → v ≡ get_or s.marks.items (slot / 64 / 64) v → MarksWords s.slots (set s.words.items (slot / 64) (bit_or w (1 * 2 ^ (slot % 64) % 2 ^ 64))) (set s.marks.items (slot / 64 / 64) (bit_or v (1 * 2 ^ (slot / 64 % 64) % 2 ^ 64)))
      insert-kept v mark =
          let at = (has_bits slot lt).mark in
          let marks = subst (λ n. IsPut s.marks.items (slot / 64) 1 (set s.marks.items (slot / 64 / 64) (bit_or n (1 * 2 ^ (slot / 64 % 64) % 2 ^ 64)))) (sym (mark ∙ get_or_default_zero s.marks.items (slot / 64 / 64) v at)) (put-set s.marks.items (slot / 64) at) in
          marked-put 1 1 _ _ set_word marks (sym (ne_eqb (get_or (set s.words.items (slot / 64) (bit_or w (1 * 2 ^ (slot % 64) % 2 ^ 64))) (slot / 64) 0) 0 set_some))

      -- a slot is put in whose word wasn't 0, so its mark stays
      pub insert_kept : w ≢ 0 → MarksWords s.slots (set s.words.items (slot / 64) (bit_or w (1 * 2 ^ (slot % 64) % 2 ^ 64))) s.marks.items
      insert_kept some =
          marked-put 1 (bit_in s.marks.items (slot / 64)) _ _ set_word (record { len = refl; here = refl; others = λ other apart. refl; words_stay = λ other apart. refl })
          (kept.marked (slot / 64) ∙ ne_eqb (get_or s.words.items (slot / 64) 0) 0 (λ e. some (word ∙ e)) ∙ sym (ne_eqb (get_or (set s.words.items (slot / 64) (bit_or w (1 * 2 ^ (slot % 64) % 2 ^ 64))) (slot / 64) 0) 0 set_some))

      -- the slot is a member then
      pub insert_members : members_of s.slots (set s.words.items (slot / 64) (bit_or w (1 * 2 ^ (slot % 64) % 2 ^ 64))) ≡ set now slot true
      insert_members = members-put s.slots s.words.items _ slot 1 (has_bits slot lt).below set_word ∙ ap (λ members. set members slot true) is

      -- the word without the slot's bit
      abbrev without : ℕ
      without = bit_and w (2 ^ 64 - 1 - 1 * 2 ^ (slot % 64) % 2 ^ 64)

      -- the slot's bit is cleared
      clear_word : IsPut s.words.items slot 0 (set s.words.items (slot / 64) without)
      clear_word = subst (λ n. IsPut s.words.items slot 0 (set s.words.items (slot / 64) (bit_and n (2 ^ 64 - 1 - 1 * 2 ^ (slot % 64) % 2 ^ 64)))) (sym word) (put-clear s.words.items slot (has_bits slot lt).word)

      -- the word is what was written
      written : get_or (set s.words.items (slot / 64) without) (slot / 64) 0 ≡ without
      written = get_or-set_same s.words.items (slot / 64) without 0 (has_bits slot lt).word

      -- a slot is taken out, and its word is empty
      pub remove-emptied : (v : ℕ) → v ≡ get_or s.marks.items (slot / 64 / 64) v → without ≡ 0 → MarksWords s.slots (set s.words.items (slot / 64) without) (set s.marks.items (slot / 64 / 64) (bit_and v (2 ^ 64 - 1 - 1 * 2 ^ (slot / 64 % 64) % 2 ^ 64)))
      remove-emptied v mark empty =
          let at = (has_bits slot lt).mark in
          let marks = subst (λ n. IsPut s.marks.items (slot / 64) 0 (set s.marks.items (slot / 64 / 64) (bit_and n (2 ^ 64 - 1 - 1 * 2 ^ (slot / 64 % 64) % 2 ^ 64)))) (sym (mark ∙ get_or_default_zero s.marks.items (slot / 64 / 64) v at)) (put-clear s.marks.items (slot / 64) at) in
          marked-put 0 0 _ _ clear_word marks (ap (λ n. n == 0) (sym (written ∙ empty)))

      -- a slot is taken out, and its word isn't empty: it wasn't before, so its mark stays
      pub remove_kept : without ≢ 0 → MarksWords s.slots (set s.words.items (slot / 64) without) s.marks.items
      remove_kept some =
          let le : without ≤ w = and_le_l w _ in
          let was : get_or s.words.items (slot / 64) 0 ≢ 0 = λ e. some (let empty = word ∙ e in omega arith) in
          marked-put 0 (bit_in s.marks.items (slot / 64)) _ _ clear_word (record { len = refl; here = refl; others = λ other apart. refl; words_stay = λ other apart. refl })
          (kept.marked (slot / 64) ∙ ne_eqb (get_or s.words.items (slot / 64) 0) 0 was ∙ sym (ne_eqb (get_or (set s.words.items (slot / 64) without) (slot / 64) 0) 0 (λ e. some (sym written ∙ e))))

      -- the slot is no member then
      pub remove_members : members_of s.slots (set s.words.items (slot / 64) without) ≡ set now slot false
      remove_members = members-put s.slots s.words.items _ slot 0 (has_bits slot lt).below clear_word ∙ ap (λ members. set members slot false) is

  -- ---- the search for the first member

  -- a search at the end finds the end
  pub found_end : (from : ℕ) → from ≡ s.slots → from ≡ first_member from now
  found_end from end = first_member-is s.slots s.words.items from from (record { from_there = omega arith; within = omega arith; before = λ place lo hi. absurd (omega arith); here = λ h. absurd (omega arith) }) ∙ ap (first_member from) is

  -- a search that isn't at the end begins at a slot
  pub begins : (from : ℕ) → from ≤ length now → from ≢ s.slots → from < length now
  begins from le before_end = let slots = slots_are in omega arith

  module _ (from : ℕ) (lt : from < length now) where
    -- a search that comes to a bit that is set has come to the first member
    found : (word skipped bit : ℕ) → ((place : ℕ) → from ≤ place → place < 64 * word + skipped → bit_in s.words.items place ≡ 0) → IsFirstSet (bit_at (get_or s.words.items word 0)) skipped 64 bit → bit < 64
        → from ≤ 64 * word + skipped → word < length s.words.items → (64 * word + bit ≡ first_member from now) × (64 * word + bit < s.slots)
    found word skipped bit before first some reach inside =
        let at = word-found s.words.items from word skipped bit before first some reach inside in
        let on : bit_in s.words.items (64 * word + bit) ≡ 1 = at.here (omega arith) in
        let below : 64 * word + bit < s.slots = elim (cases_lt (64 * word + bit) s.slots) [
          | inl below ↦ below
          | inr behind ↦ absurd (let off = kept.none_behind (64 * word + bit) behind in omega arith)
        ] in
        (first_member-is s.slots s.words.items from _ (record { from_there = at.from_there; within = omega arith; before = at.before; here = λ h. on }) ∙ ap (first_member from) is, below)

    module _ (bit w : ℕ) (read : w ≡ get_or s.words.items (from / 64) w) (seen : IsFirstSet (bit_at w) (from % 64) 64 bit) where
      -- the first bit of the first word
      first : IsFirstSet (bit_at (get_or s.words.items (from / 64) 0)) (from % 64) 64 bit
      first = subst (λ n. IsFirstSet (bit_at n) (from % 64) 64 bit) (read ∙ get_or_default_zero s.words.items (from / 64) w (has_bits from lt).word) seen

      -- no slot was passed over yet
      nothing_yet : (place : ℕ) → from ≤ place → place < 64 * (from / 64) + from % 64 → bit_in s.words.items place ≡ 0
      nothing_yet place lo hi = absurd (omega arith)

      -- the first member is in the first word
      pub found_here : bit < 64 → 64 * (from / 64) + bit ≡ first_member from now
      found_here some = (found (from / 64) (from % 64) bit nothing_yet first some (omega arith) (has_bits from lt).word).0

      module _ (none : 64 ≤ bit) (marks : List ℕ) (same : marks ≡ s.marks.items) (next : ℕ) (told : IsFirstSet (bit_in marks) (from / 64 + 1) (64 * length marks) next) where
        -- the next word with a mark
        mark : IsFirstSet (bit_in s.marks.items) (from / 64 + 1) (64 * length s.marks.items) next
        mark = subst (λ m. IsFirstSet (bit_in m) (from / 64 + 1) (64 * length m) next) same told

        -- no slot before it is a member
        passed : (place : ℕ) → from ≤ place → place / 64 < next → bit_in s.words.items place ≡ 0
        passed place lo hi = elim (cases_lt place (64 * (from / 64 + 1) + 0)) [
          | inl near ↦ before_bit s.words.items from (from / 64) (from % 64) bit nothing_yet first place lo (omega arith)
          | inr far ↦
              let off : bit_in s.marks.items (place / 64) ≡ 0 = mark.before (place / 64) (omega arith) hi in
              let word : get_or s.words.items (place / 64) 0 ≡ 0 = eqb-true (get_or s.words.items (place / 64) 0) 0 (sym (kept.marked (place / 64)) ∙ ap (λ d. d == 0) off) in
              ap (λ w. bit_at w (place % 64)) word ∙ bit_at-zero (place % 64)
        ]

        -- no word has a mark: there is no member
        pub found_nowhere : length s.words.items ≤ next → s.slots ≡ first_member from now
        found_nowhere end =
            let slots = slots_are in
            let room = kept.room in
            first_member-is s.slots s.words.items from s.slots (record { from_there = omega arith; within = omega arith; before = λ place lo hi. passed place lo (omega arith); here = λ h. absurd (omega arith) }) ∙ ap (first_member from) is

        -- the next word with a mark isn't 0, so the first member is in it
        pub found_later : next < length s.words.items → (u : ℕ) → u ≡ get_or s.words.items next u → u < 2 ^ 64 → (last : ℕ) → IsFirstSet (bit_at u) 0 64 last → (64 * next + last ≡ first_member from now) × (64 * next + last < s.slots)
        found_later inside u read_next fits last seen_last =
            let same_word : u ≡ get_or s.words.items next 0 = read_next ∙ get_or_default_zero s.words.items next u inside in
            let on : bit_in s.marks.items next ≡ 1 = mark.here (let room = kept.room_of_marks in omega arith) in
            let some : last < 64 = elim (cases_lt last 64) [
              | inl below ↦ below
              | inr all ↦
                  let nothing : u ≡ 0 = same_from_bits_below 64 u 0 fits (omega arith) (λ i h. seen_last.before i (omega arith) (omega arith) ∙ sym (bit_at-zero i)) in
                  absurd (let wrong : false ≡ true = ap (λ d. d == 0) (sym on) ∙ kept.marked next ∙ eq-eqb (get_or s.words.items next 0) 0 (sym same_word ∙ nothing) in cc)
            ] in
            let reach = mark.from_there in
            found next 0 last (λ place lo hi. passed place lo (omega arith)) (subst (λ n. IsFirstSet (bit_at n) 0 64 last) same_word seen_last) some (omega arith) inside

  -- ---- the words of a set, one by one

  -- a slot is a member where its bit is set, and no member behind the last slot
  member-is : (slot : ℕ) → get_or now slot false ≡ (bit_in s.words.items slot == 1)
  member-is slot = elim (cases_lt slot s.slots) [
    | inl below ↦ ap (λ members. get_or members slot false) (sym is) ∙ members-at s.slots s.words.items slot below
    | inr behind ↦ let slots = slots_are in get_or_past now slot false (omega arith) ∙ ap (λ digit. digit == 1) (sym (kept.none_behind slot behind))
  ]

  -- a word of the set lies in a word
  pub has_word : (word : ℕ) → 64 * word < length now → word < length s.words.items
  has_word word lt =
      let slots = slots_are in
      let room = kept.room in
      omega arith

  -- its bits tell which of its slots are members
  pub word_told : (word : ℕ) → 64 * word < length now → (w : ℕ) → w ≡ get_or s.words.items word w → AreMembers now word w
  word_told word lt w read = record {
    told = λ k hi.
        let inside : 64 * word + k - 64 * word ≡ k = omega arith in
        let at : get_or s.words.items word 0 ≡ w = sym (read ∙ get_or_default_zero s.words.items word w (has_word word lt)) in
        let bit : bit_in s.words.items (64 * word + k) ≡ bit_at w k = bit-of_word s.words.items word (64 * word + k) (omega arith) (omega arith) ∙ ap (bit_at (get_or s.words.items word 0)) inside ∙ ap (λ n. bit_at n k) at in
        ap (λ digit. digit == 1) (sym bit) ∙ sym (member-is (64 * word + k));
  }

  -- a set that has a slot has a word of marks
  pub has_marks : 1 ≤ length now → 0 < length s.marks.items
  has_marks some =
      let slots = slots_are in
      let room = kept.room in
      let marks = kept.room_of_marks in
      omega arith

  -- whose bits tell which of the first words have members
  pub words_told : (bits : ℕ) → bits ≡ get_or s.marks.items 0 bits → 1 ≤ length now → AreWords now bits
  words_told bits read some =
      let at : get_or s.marks.items 0 0 ≡ bits = sym (read ∙ get_or_default_zero s.marks.items 0 bits (has_marks some)) in
      let mark : (word : ℕ) → word < 64 → bit_in s.marks.items word ≡ bit_at bits word = λ word lt.
      let whole : word - 64 * 0 ≡ word = omega arith in
      bit-of_word s.marks.items 0 word (omega arith) (omega arith) ∙ ap (bit_at (get_or s.marks.items 0 0)) whole ∙ ap (λ n. bit_at n word) at in
      let slots = slots_are in
      record {
        within = λ word lt on. elim (cases_lt (64 * word) s.slots) [
          | inl below ↦ omega arith
          | inr behind ↦ absurd (let wrong : 0 ≡ 1 = sym (kept.no_marks_behind word behind) ∙ mark word lt ∙ on in omega arith)
        ];
        none = λ word lt off slot lo hi.
            let quotient : slot / 64 ≡ word = omega arith in
            let empty : get_or s.words.items word 0 ≡ 0 = eqb-true (get_or s.words.items word 0) 0 (sym (kept.marked word) ∙ ap (λ d. d == 0) (mark word lt ∙ off)) in
            let bit : bit_in s.words.items slot ≡ 0 = ap (λ w. bit_at (get_or s.words.items w 0) (slot % 64)) quotient ∙ ap (λ w. bit_at w (slot % 64)) empty ∙ bit_at-zero (slot % 64) in
            member-is slot ∙ ap (λ digit. digit == 1) bit;
      }

-- ---- the bits of a word, one by one

-- the bits of a number above a place, by those of its half
upper : (a b place : ℕ) → ((i : ℕ) → place ≤ i → bit_at (a / 2) i ≡ bit_at (b / 2) i) → (i : ℕ) → place < i → bit_at a i ≡ bit_at b i
upper a b place halves zero above = absurd (omega arith)
upper a b place halves (suc i) above = bit_at-suc a i ∙ halves i (omega arith) ∙ sym (bit_at-suc b i)

-- a number less 1 has the bits of the number above the lowest that is set, and not that one
less_one : (place n : ℕ) → bit_at n place ≡ 1 → ((i : ℕ) → i < place → bit_at n i ≡ 0) → (bit_at (n - 1) place ≡ 0) × ((i : ℕ) → place < i → bit_at (n - 1) i ≡ bit_at n i)
less_one zero n set none =
    let half : (n - 1) / 2 ≡ n / 2 = omega (arith, bit_at_lowest n) in
    (bit_at_lowest (n - 1) ∙ omega (arith, bit_at_lowest n), upper (n - 1) n 0 (λ i reach. ap (λ m. bit_at m i) half))
less_one (suc place) n set none =
    let even : n % 2 ≡ 0 = sym (bit_at_lowest n) ∙ none 0 (omega arith) in
    let half : (n - 1) / 2 ≡ n / 2 - 1 = omega arith in
    let (off, above) = less_one place (n / 2) (sym (bit_at-suc n place) ∙ set) (λ i below. sym (bit_at-suc n i) ∙ none (suc i) (omega arith)) in
    (bit_at-suc (n - 1) place ∙ ap (λ m. bit_at m place) half ∙ off, upper (n - 1) n (suc place) (λ i reach. ap (λ m. bit_at m i) half ∙ above i (omega arith)))

-- a place is that of the lowest bit that is set, and the rest has the others
pub record IsLowest (bits place rest : ℕ) : Type 0 where
  pub within : place < 64
  pub here : bit_at bits place ≡ 1
  pub none_before : (k : ℕ) → k < place → bit_at bits k ≡ 0
  pub cleared : (k : ℕ) → k < place + 1 → bit_at rest k ≡ 0
  pub others : (k : ℕ) → place < k → bit_at rest k ≡ bit_at bits k
  pub fewer : rest < bits

-- the lowest bit of a word stands behind the zeros, and is cleared by the word less 1
pub lowest : (bits : ℕ) → 0 < bits → bits < 2 ^ 64 → IsLowest bits (trailing_zeros w64 bits) (bit_and bits (bits - 1))
lowest bits some fits =
    let (within, here, none_before) = bit_at-trailing_zeros w64 bits some fits in
    let (off, above) = less_one (trailing_zeros w64 bits) bits here none_before in
    record {
      within = within;
      here = here;
      none_before = none_before;
      cleared = λ k lt. elim (cases_eq k (trailing_zeros w64 bits)) [
        | inl same ↦ let none : bit_at (bits - 1) k ≡ 0 = ap (bit_at (bits - 1)) same ∙ off in bit_at_and bits (bits - 1) k ∙ omega arith
        | inr apart ↦ let none : bit_at bits k ≡ 0 = none_before k (omega arith) in bit_at_and bits (bits - 1) k ∙ omega arith
      ];
      others = λ k lt. bit_at_and bits (bits - 1) k ∙ ap (min (bit_at bits k)) (above k lt) ∙ omega arith;
      fewer = let le : bit_and bits (bits - 1) ≤ bits - 1 = and_le_r bits (bits - 1) in omega arith;
    }
