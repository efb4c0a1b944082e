-- What the signatures of slots tell of records, and how they follow a record that comes, goes or changes its fork.
use Rattle.dine_forks.proofs.Words.{◌≡◌, ◌≢◌, ℕ, ◌==◌, ◌<◌, ◌≤◌, true, false, cond, List, [], ◌∷◌, ◌++◌, length, None, inl, inr, refl, ap, ◌∙◌, arith, nat_tests, eqb-true, eq-eqb, filter, length-set, get_or-set_same, get_or-set_other, Fork, ForkBook, ForkId, ForkRecord, id_between, is_between, slot_list, with_fork, without}
use Rattle.std.proofs.Common.{◌%◌, ◌^◌, max, bit_or}
use Rattle.std.specs.Int.{bit_at}
use Rattle.std.proofs.lemmas.Bool.{cases_eq}
use Rattle.std.proofs.lemmas.Nat.Bits.{bit_at-lt, bit_at_or, bit_at-pow_same}
use Rattle.dine_forks.specs.Signatures.{AreNoted, AreSignatures, has_bit_of, noted, signature_of}

-- ---- one bit

-- the slot that is noted has its bit
here : (signatures : List ℕ) (slot other degree : ℕ) → slot < length signatures → has_bit_of (noted slot other degree signatures) slot other ≡ true
here signatures slot other degree within =
    let before = cond (degree == 0) 0 (signature_of signatures slot) in
    let word = bit_or before (2 ^ (other % 64)) in
    let small = bit_at-lt before (other % 64) in
    let bit : bit_at word (other % 64) ≡ 1 = bit_at_or before (2 ^ (other % 64)) (other % 64) ∙ ap (max (bit_at before (other % 64))) (bit_at-pow_same (other % 64)) ∙ omega arith in
    eq-eqb _ 1 (ap (λ w. bit_at w (other % 64)) (get_or-set_same signatures slot word 0 within) ∙ bit)

-- a bit stays where a slot that has a record is noted another
stays : (signatures : List ℕ) (slot other degree : ℕ) → slot < length signatures → 1 ≤ degree → (third : ℕ) → has_bit_of signatures slot third ≡ true → has_bit_of (noted slot other degree signatures) slot third ≡ true
stays signatures slot other degree within some third had =
    let before = signature_of signatures slot in
    let word = bit_or (cond (degree == 0) 0 before) (2 ^ (other % 64)) in
    let was : bit_at before (third % 64) ≡ 1 = eqb-true _ 1 had in
    let digit = bit_at-lt (2 ^ (other % 64)) (third % 64) in
    let bit : bit_at word (third % 64) ≡ 1 = grind (arith, nat_tests, bit_at_or before (2 ^ (other % 64)) (third % 64)) in
    eq-eqb _ 1 (ap (λ w. bit_at w (third % 64)) (get_or-set_same signatures slot word 0 within) ∙ bit)

-- the signatures of other slots stay
apart : (signatures : List ℕ) (slot other degree : ℕ) → (another third : ℕ) → another ≢ slot → has_bit_of (noted slot other degree signatures) another third ≡ has_bit_of signatures another third
apart signatures slot other degree another third differs =
    ap (λ w. bit_at w (third % 64) == 1) (get_or-set_other signatures slot another (bit_or (cond (degree == 0) 0 (signature_of signatures slot)) (2 ^ (other % 64))) 0 differs)

-- so does each bit of a record, where the slot has no more records than it is said to have
kept : (signatures : List ℕ) (slot other degree : ℕ) → slot < length signatures → (one two : ℕ) → (one ≡ slot → 1 ≤ degree) → has_bit_of signatures one two ≡ true → has_bit_of (noted slot other degree signatures) one two ≡ true
kept signatures slot other degree within one two some had = elim (cases_eq one slot) [
  | inl same ↦ grind (arith, stays signatures slot other degree within)
  | inr differs ↦ apart signatures slot other degree one two differs ∙ had
]

-- ---- the records

-- records stay noted where a further slot is
noted-noted : (signatures : List ℕ) (slot other degree : ℕ) (rs : List ForkRecord) → slot < length signatures → length (slot_list slot rs) ≤ degree → AreNoted signatures rs → AreNoted (noted slot other degree signatures) rs
noted-noted signatures slot other degree [] within few h = tt
noted-noted signatures slot other degree (r ∷ rs) within few h = (
  kept signatures slot other degree within r.first r.second (λ same. grind (arith, nat_tests)) h.0,
  kept signatures slot other degree within r.second r.first (λ same. grind (arith, nat_tests)) h.1,
  noted-noted signatures slot other degree rs within (grind (arith, nat_tests)) h.2,
)

-- and one more is noted
noted-append : (signatures : List ℕ) (rs : List ForkRecord) (r : ForkRecord) → AreNoted signatures rs → has_bit_of signatures r.first r.second ≡ true → has_bit_of signatures r.second r.first ≡ true → AreNoted signatures (rs ++ r ∷ [])
noted-append signatures [] r h first second = (first, second, tt)
noted-append signatures (x ∷ xs) r h first second = (h.0, h.1, noted-append signatures xs r h.2 first second)

-- a record less
noted-without : (signatures : List ℕ) (id : ForkId) (rs : List ForkRecord) → AreNoted signatures rs → AreNoted signatures (without id rs)
noted-without signatures id [] h = tt
noted-without signatures id (x ∷ xs) h = grind (arith, noted-without signatures id xs h.2)

-- another fork
noted-with_fork : (signatures : List ℕ) (id : ForkId) (fork : Fork) (rs : List ForkRecord) → AreNoted signatures rs → AreNoted signatures (with_fork id fork rs)
noted-with_fork signatures id fork [] h = tt
noted-with_fork signatures id fork (x ∷ xs) h = grind (arith, noted-with_fork signatures id fork xs h.2)

-- ---- the book

-- a record that comes behind the others is noted at both ends
pub signed-linked : (signatures : List ℕ) (book : ForkBook) (r : ForkRecord) (first second : ℕ) → AreSignatures signatures book → r.first ≢ r.second → r.first < book.slots → r.second < book.slots → first ≡ length (slot_list r.first book.records) → second ≡ length (slot_list r.second book.records)
    → AreSignatures (noted r.second r.first second (noted r.first r.second first signatures)) (record book { records = book.records ++ r ∷ [] })
signed-linked signatures book r first second h differ below_first below_second counts_first counts_second =
    let once = noted r.first r.second first signatures in
    let long = h.long in
    let long_once : length once ≡ length signatures = length-set signatures r.first _ in
    let within_first : r.first < length signatures = omega arith in
    let within_second : r.second < length once = omega arith in
    let twice = noted r.second r.first second once in
    let others = noted-noted once r.second r.first second book.records within_second (omega arith) (noted-noted signatures r.first r.second first book.records within_first (omega arith) h.each) in
    record {
      long = length-set once r.second _ ∙ long_once ∙ h.long;
      each = noted-append twice book.records r others
          (apart once r.second r.first second r.first r.second differ ∙ here signatures r.first r.second first within_first)
          (here once r.second r.first second within_second);
    }

-- where one goes the others stay noted
pub signed-unlinked : (signatures : List ℕ) (book : ForkBook) (id : ForkId) → AreSignatures signatures book → AreSignatures signatures (record book { records = without id book.records })
signed-unlinked signatures book id h = record { long = h.long; each = noted-without signatures id book.records h.each }

-- and where a fork changes
pub signed-forked : (signatures : List ℕ) (book : ForkBook) (id : ForkId) (fork : Fork) → AreSignatures signatures book → AreSignatures signatures (record book { records = with_fork id fork book.records })
signed-forked signatures book id fork h = record { long = h.long; each = noted-with_fork signatures id fork book.records h.each }

-- ---- what they tell

-- no record joins two slots of which one isn't noted in the signature of the other
none-noted : (signatures : List ℕ) (a b : ℕ) (rs : List ForkRecord) → AreNoted signatures rs → has_bit_of signatures a b ≡ false → filter (is_between a b) rs ≡ []
none-noted signatures a b [] h not_noted = refl
none-noted signatures a b (r ∷ rs) h not_noted = grind (arith, nat_tests, none-noted signatures a b rs h.2 not_noted)

-- so a search finds none
pub none-between : (signatures : List ℕ) (a b : ℕ) (rs : List ForkRecord) → AreNoted signatures rs → has_bit_of signatures a b ≡ false → id_between a b rs ≡ None
none-between signatures a b rs h not_noted = rw (none-noted signatures a b rs h not_noted) refl
