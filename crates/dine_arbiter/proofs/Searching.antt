-- A search among the hungry slots finds each that holds all of its forks, the least first.
use Rattle.dine_arbiter.proofs.Words.{◌≡◌, ◌≢◌, ℕ, zero, suc, ◌+◌, ◌-◌, ◌*◌, ◌/◌, ◌%◌, ◌^◌, ◌==◌, ◌<◌, ◌≤◌, Bool, true, false, ◌&&◌, if◌then◌else◌, List, [], ◌∷◌, length, get_or, min, bit_and, w64, inl, inr, refl, sym, ap, ◌∙◌, arith, bit_at, bit_not, trailing_zeros, filter, range_with_len, and_parts, cases_Bool, cases_eq, cases_lt, eq-eqb, eqb-true, ne_eqb, true≢false, get_or_past, bit_at-lt, bit_at-zero, bit_at_and, bit_at_not, ForkBook, AreMembers, lowest, Search, IsSearch, holds_all_at, is_ahead, is_ready_slot, slots_left, weight_of}

-- ---- numbers of a range that pass a test

-- tests that agree on the range choose the same
filter-agree : (p q : ℕ → Bool) (a n : ℕ) → ((k : ℕ) → a ≤ k → k < a + n → p k ≡ q k) → filter p (range_with_len a n) ≡ filter q (range_with_len a n)
filter-agree p q a zero h = refl
filter-agree p q a (suc n) h = rw (h a (omega arith) (omega arith), filter-agree p q (a + 1) n (λ k lo hi. h k (omega arith) (omega arith))) refl

-- a test that none passes chooses nothing
filter-nothing : (p : ℕ → Bool) (a n : ℕ) → ((k : ℕ) → p k ≡ false) → filter p (range_with_len a n) ≡ []
filter-nothing p a zero h = refl
filter-nothing p a (suc n) h = rw (h a) (filter-nothing p (a + 1) n h)

-- the least that passes stands in front of those that pass the test without it
filter-least : (p q : ℕ → Bool) (s a n : ℕ) → a ≤ s → s < a + n → p s ≡ true → q s ≡ false → ((k : ℕ) → k < s → p k ≡ false) → ((k : ℕ) → k ≢ s → q k ≡ p k) → filter p (range_with_len a n) ≡ s ∷ filter q (range_with_len a n)
filter-least p q s a zero lo hi here gone none others = absurd (omega arith)
filter-least p q s a (suc n) lo hi here gone none others = elim (cases_eq a s) [
  | inl same ↦ rw same (rw (here, gone) (ap (λ xs. s ∷ xs) (filter-agree p q (s + 1) n (λ k low high. sym (others k (λ e. omega arith))))))
  | inr apart ↦ rw (none a (omega arith), others a apart ∙ none a (omega arith)) (filter-least p q s (a + 1) n (omega arith) (omega arith) here gone none others)
]

-- ---- a word without its lowest bit

module _ (bits : ℕ) (some : 0 < bits) (fits : bits < 2 ^ 64) where
  -- its other bits are as they were
  kept_bit : (k : ℕ) → k ≢ trailing_zeros w64 bits → bit_at (bit_and bits (bits - 1)) k ≡ bit_at bits k
  kept_bit k differ = elim (cases_lt k (trailing_zeros w64 bits)) [
    | inl below ↦ (lowest bits some fits).cleared k (omega arith) ∙ sym ((lowest bits some fits).none_before k below)
    | inr above ↦ (lowest bits some fits).others k (omega arith)
  ]

  -- a bit that is left was set
  left-set : (k : ℕ) → bit_at (bit_and bits (bits - 1)) k ≡ 1 → (trailing_zeros w64 bits < k) × (bit_at bits k ≡ 1)
  left-set k on = elim (cases_lt (trailing_zeros w64 bits) k) [
    | inl above ↦ (above, sym ((lowest bits some fits).others k above) ∙ on)
    | inr below ↦ absurd (let off = (lowest bits some fits).cleared k (omega arith) in omega arith)
  ]

-- ---- the search

module _ (hungry : List Bool) (book : ForkBook) (s : Search) (kept : IsSearch hungry s) where
  -- where it has no word and no slot ahead, nothing is left
  pub nothing_left : s.members ≡ 0 → s.words ≡ 0 → slots_left s hungry book ≡ []
  nothing_left no_members no_words = filter-nothing _ 0 (length hungry) (λ k.
      let word : bit_at s.words (k / 64) ≡ 0 = ap (λ n. bit_at n (k / 64)) no_words ∙ bit_at-zero (k / 64) in
      let member : bit_at s.members (k % 64) ≡ 0 = ap (λ n. bit_at n (k % 64)) no_members ∙ bit_at-zero (k % 64) in
      rw (word, member) (grind arith))

  -- it goes on with a word
  module _ (none : s.members ≡ 0) (some : 0 < s.words) (fits : s.words < 2 ^ 64) where
    -- the word
    abbrev word : ℕ
    word = trailing_zeros w64 s.words

    -- it has slots
    pub word_within : (word < 64) × (64 * word < length hungry)
    word_within = let found = lowest s.words some fits in (found.within, kept.words word found.within found.here)

    module _ (bits lacking : ℕ) (small : lacking < 2 ^ 64) (are : AreMembers hungry word bits) (lacks : (k : ℕ) → k < 64 → bit_at lacking k ≡ 1 → holds_all_at book (64 * word + k) ≡ false) where
      -- the search with this word
      abbrev at_word : Search
      at_word = record { words = bit_and s.words (s.words - 1); first = 64 * word; members = bit_and bits (bit_not w64 lacking) }

      -- its first slot is that of the word
      own_word : at_word.first / 64 ≡ word
      own_word = omega arith

      -- a slot is to be asked about that is hungry, and isn't known to lack a fork
      member_bit : (k : ℕ) → k < 64 → bit_at at_word.members k ≡ min (bit_at bits k) (1 - bit_at lacking k)
      member_bit k lt = bit_at_and bits (bit_not w64 lacking) k ∙ ap (min (bit_at bits k)) (bit_at_not w64 lacking k small lt)

      -- it keeps what it has to
      pub word_kept : IsSearch hungry at_word
      word_kept = record {
        few = kept.few;
        in_range = (let within = word_within in omega arith);
        at_word = omega arith;
        words = λ w lt on. kept.words w lt (left-set s.words some fits w on).1;
        members = λ k lt on.
            let both = member_bit k lt in
            let digit = bit_at-lt bits k in
            let member : bit_at bits k ≡ 1 = omega arith in
            sym (are.told k lt) ∙ ap (λ d. d == 1) member;
        in_order = λ w low on. absurd (let behind = (left-set s.words some fits w on).0 in let same = own_word in omega arith);
      }

      -- it has less to go through
      pub word_fewer : at_word.members < 2 ^ 64 → weight_of at_word ≤ weight_of s
      word_fewer fits_one = let less = (lowest s.words some fits).fewer in omega arith

      -- and nothing that it has to find is lost
      pub word_left : slots_left at_word hungry book ≡ slots_left s hungry book
      word_left = filter-agree _ _ 0 (length hungry) (λ k lo hi. elim (cases_eq (k / 64) word) [
        | inl here ↦ elim (cases_Bool (is_ready_slot hungry book k)) [
          | inl ready ↦ rw (ready, now k here ready, ap (bit_at s.words) here ∙ (lowest s.words some fits).here, eq-eqb (k / 64) (at_word.first / 64) (here ∙ sym own_word)) (grind arith)
          | inr idle ↦ rw idle (grind arith)
        ]
        | inr apart ↦
            let member : bit_at s.members (k % 64) ≡ 0 = ap (λ n. bit_at n (k % 64)) none ∙ bit_at-zero (k % 64) in
            rw (kept_bit s.words some fits (k / 64) apart, ne_eqb (k / 64) (at_word.first / 64) (λ e. apart (e ∙ own_word)), member) (grind arith)
      ])
        where
          now : (k : ℕ) → k / 64 ≡ word → is_ready_slot hungry book k ≡ true → bit_at at_word.members (k % 64) ≡ 1
          now k here ready =
              let both = and_parts (get_or hungry k false) (holds_all_at book k) ready in
              let back : 64 * word + k % 64 ≡ k = omega arith in
              let bit = member_bit (k % 64) (omega arith) in
              let told : (bit_at bits (k % 64) == 1) ≡ true = are.told (k % 64) (omega arith) ∙ ap (λ n. get_or hungry n false) back ∙ both.0 in
              let on : bit_at bits (k % 64) ≡ 1 = eqb-true (bit_at bits (k % 64)) 1 told in
              let digit = bit_at-lt lacking (k % 64) in
              elim (cases_eq (bit_at lacking (k % 64)) 1) [
                | inl one ↦ absurd (true≢false (sym both.1 ∙ ap (holds_all_at book) (sym back) ∙ lacks (k % 64) (omega arith) one))
                | inr other ↦ omega arith
              ]

  -- it asks about a slot
  module _ (some : 0 < s.members) (fits : s.members < 2 ^ 64) where
    -- the slot
    abbrev slot : ℕ
    slot = s.first + trailing_zeros w64 s.members

    -- the search without it
    abbrev past_slot : Search
    past_slot = record { words = s.words; first = s.first; members = bit_and s.members (s.members - 1) }

    -- where it stands
    at_slot : (trailing_zeros w64 s.members < 64) × (slot / 64 ≡ s.first / 64) × (slot % 64 ≡ trailing_zeros w64 s.members)
    at_slot = let within = (lowest s.members some fits).within in let at = kept.at_word in (within, omega arith, omega arith)

    -- its task is hungry
    slot_hungry : get_or hungry slot false ≡ true
    slot_hungry = let found = lowest s.members some fits in kept.members (trailing_zeros w64 s.members) found.within found.here

    -- so there is such a slot
    pub slot_within : slot < length hungry
    slot_within = elim (cases_lt slot (length hungry)) [ inl below ↦ below | inr behind ↦ absurd (true≢false (sym slot_hungry ∙ get_or_past hungry slot false behind)) ]

    -- no word up to its own is still to be gone through
    no_word : (w : ℕ) → w ≤ s.first / 64 → bit_at s.words w ≡ 0
    no_word w low = elim (cases_eq (bit_at s.words w) 1) [
      | inl on ↦ absurd (let none = kept.in_order w low on in omega arith)
      | inr off ↦ (let digit = bit_at-lt s.words w in omega arith)
    ]

    -- it keeps what it has to
    pub slot_kept : IsSearch hungry past_slot
    slot_kept = record {
      few = kept.few;
      in_range = kept.in_range;
      at_word = kept.at_word;
      words = kept.words;
      members = λ k lt on. kept.members k lt (left-set s.members some fits k on).1;
      in_order = λ w low on. absurd (let off = no_word w low in omega arith);
    }

    -- and what is left gets less
    pub slot_fewer : weight_of past_slot < weight_of s
    slot_fewer = let less = (lowest s.members some fits).fewer in omega arith

    -- others are ahead as before
    others_ahead : (k : ℕ) → k ≢ slot → is_ahead past_slot k ≡ is_ahead s k
    others_ahead k differ = elim (cases_eq (k / 64) (s.first / 64)) [
      | inl here ↦ rw (kept_bit s.members some fits (k % 64) (λ e. let stands = at_slot in let at = kept.at_word in differ (omega arith))) refl
      | inr apart ↦ rw (ne_eqb (k / 64) (s.first / 64) apart) refl
    ]

    -- none before it is
    none_ahead : (k : ℕ) → k < slot → is_ahead s k ≡ false
    none_ahead k before =
        let stands = at_slot in
        let word : bit_at s.words (k / 64) ≡ 0 = no_word (k / 64) (omega arith) in
        elim (cases_eq (k / 64) (s.first / 64)) [
          | inl here ↦ rw (word, (lowest s.members some fits).none_before (k % 64) (omega arith)) (grind arith)
          | inr apart ↦ rw (word, ne_eqb (k / 64) (s.first / 64) apart) refl
        ]

    -- it is found if it holds all of its forks, and nothing else is
    pub slot_left : slots_left s hungry book ≡ (if holds_all_at book slot then slot ∷ slots_left past_slot hungry book else slots_left past_slot hungry book)
    slot_left =
        let stands = at_slot in
        let found = lowest s.members some fits in
        let here : is_ahead s slot ≡ true = rw (stands.1, stands.2, found.here, eq-eqb (s.first / 64) (s.first / 64) refl) (grind arith) in
        let gone : is_ahead past_slot slot ≡ false = rw (stands.1, stands.2, no_word (s.first / 64) (omega arith), found.cleared (trailing_zeros w64 s.members) (omega arith)) (grind arith) in
        let p : ℕ → Bool = λ k. is_ahead s k && is_ready_slot hungry book k in
        let q : ℕ → Bool = λ k. is_ahead past_slot k && is_ready_slot hungry book k in
        let others : (k : ℕ) → k ≢ slot → q k ≡ p k = λ k differ. ap (λ b. b && is_ready_slot hungry book k) (others_ahead k differ) in
        let dropped : q slot ≡ false = ap (λ b. b && is_ready_slot hungry book slot) gone in
        elim (cases_Bool (holds_all_at book slot)) [
          | inl holds ↦ rw holds (filter-least p q slot 0 (length hungry) (omega arith) (omega (arith, slot_within)) (rw (here, slot_hungry, holds) refl) dropped (λ k before. ap (λ b. b && is_ready_slot hungry book k) (none_ahead k before)) others)
          | inr lacks ↦ rw lacks (filter-agree p q 0 (length hungry) (λ k lo hi. elim (cases_eq k slot) [
            | inl same ↦ rw same (ap (λ b. b && is_ready_slot hungry book slot) here ∙ rw (slot_hungry, lacks) refl ∙ sym dropped)
            | inr differ ↦ sym (others k differ)
          ]))
        ]
