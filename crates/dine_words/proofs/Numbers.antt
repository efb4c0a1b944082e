-- Numbers in texts: what is read is what was written, and nothing else is read.
use Rattle.std.proofs.Common.{◌≡◌, ◌≢◌, ℕ, zero, suc, eqb, ◌+◌, ◌-◌, ◌*◌, ◌/◌, ◌%◌, ◌^◌, ◌≤◌, ◌<◌, Bool, true, false, not, ◌&&◌, nat_le, nat_lt, List, [], ◌∷◌, ◌++◌, length, drop, get_or, Some, None, inl, inr, refl, sym, ap, ◌∙◌, append_assoc, arith, decimal, Vec, vec_capacity, vec_len}
use Rattle.std.specs.Char.{is_ascii_digit}
use Rattle.std.proofs.Math.Seq.{drop-cons}
use Rattle.std.proofs.lemmas.List.{drop_all}
use Rattle.std.proofs.lemmas.Bool.{cases_Bool, lt-ltb, and_parts, eqb-true, eq-eqb}
use Rattle.std.proofs.lemmas.Bool.Decides.{nat_tests}
use Rattle.std.proofs.lemmas.Fmt.{decimal_digit, decimal_step, decimal_by_steps}
use Rattle.dine_words.specs.Reading.{IsNumberBefore, begins_with_digit, begins_with_number, digits_after, digits_from, number_at}
use Rattle.dine_words.specs.Texts.{AppendsUpTo}

-- more digits make no smaller number
pub digits_after-le : (n : ℕ) (bs : List ℕ) → n ≤ (digits_after n bs).0
digits_after-le n [] = omega arith
digits_after-le n (b ∷ bs) = elim (cases_Bool (is_ascii_digit b)) [
  | inl e ↦ rw e (let more : 10 * n + (b - 48) ≤ (digits_after (10 * n + (b - 48)) bs).0 = digits_after-le (10 * n + (b - 48)) bs in omega arith)
  | inr e ↦ rw e (omega arith)
]

-- the digits go on as long as they come
pub digits_after-digit : (n b : ℕ) (bs : List ℕ) → is_ascii_digit b ≡ true → digits_after n (b ∷ bs) ≡ digits_after (10 * n + (b - 48)) bs
digits_after-digit n b bs e = rw e refl

-- and end where none comes
pub digits_after-end : (n : ℕ) (rest : List ℕ) → begins_with_digit rest ≡ false → digits_after n rest ≡ (n, rest)
digits_after-end n [] e = refl
digits_after-end n (b ∷ bs) e = rw e refl

-- digits whose number is below 2^64 are read as that number
digits_from-small : (s : ℕ) (bytes rest : List ℕ) (n : ℕ) → digits_after s bytes ≡ (n, rest) → n < 2 ^ 64 → digits_from s bytes ≡ Some (n, rest)
digits_from-small s bytes rest n e small = rw (e, lt-ltb n (2 ^ 64) small) refl

-- digits whose number is too large are no number
digits_from-large : (s : ℕ) (bytes : List ℕ) → 2 ^ 64 ≤ (digits_after s bytes).0 → digits_from s bytes ≡ None
digits_from-large s bytes large = let e : nat_lt (digits_after s bytes).0 (2 ^ 64) ≡ false = grind (arith, nat_tests) in rw e refl

-- the digits come to an end within the bytes
pub digits_from-stop : (s : ℕ) (bytes : List ℕ) (n i : ℕ) → i < length bytes → n < 2 ^ 64 → digits_after n (drop i bytes) ≡ digits_after s bytes → is_ascii_digit (get_or bytes i 0) ≡ false → digits_from s bytes ≡ Some (n, drop i bytes)
digits_from-stop s bytes n i inside small goes_on stop =
    let cut : drop i bytes ≡ get_or bytes i 0 ∷ drop (suc i) bytes = drop-cons bytes i 0 inside in
    let ends : digits_after n (drop i bytes) ≡ (n, drop i bytes) = rw cut (digits_after-end n (get_or bytes i 0 ∷ drop (suc i) bytes) stop) in
    digits_from-small s bytes (drop i bytes) n (sym goes_on ∙ ends) small

-- or the bytes do
pub digits_from-all : (s : ℕ) (bytes : List ℕ) (n i : ℕ) → length bytes ≤ i → n < 2 ^ 64 → digits_after n (drop i bytes) ≡ digits_after s bytes → digits_from s bytes ≡ Some (n, [])
digits_from-all s bytes n i outside small goes_on =
    let none : drop i bytes ≡ [] = drop_all i bytes outside in
    digits_from-small s bytes [] n (sym goes_on ∙ rw none refl) small

-- or the number gets too large
pub digits_from-too_large : (s : ℕ) (bytes : List ℕ) (n i : ℕ) → i < length bytes → 2 ^ 64 ≤ 10 * n + (get_or bytes i 0 - 48) → digits_after n (drop i bytes) ≡ digits_after s bytes → is_ascii_digit (get_or bytes i 0) ≡ true → digits_from s bytes ≡ None
digits_from-too_large s bytes n i inside large goes_on digit =
    let cut : drop i bytes ≡ get_or bytes i 0 ∷ drop (suc i) bytes = drop-cons bytes i 0 inside in
    let more : digits_after n (drop i bytes) ≡ digits_after (10 * n + (get_or bytes i 0 - 48)) (drop (suc i) bytes) = rw cut (digits_after-digit n (get_or bytes i 0) (drop (suc i) bytes) digit) in
    let least : 10 * n + (get_or bytes i 0 - 48) ≤ (digits_after (10 * n + (get_or bytes i 0 - 48)) (drop (suc i) bytes)).0 = digits_after-le _ (drop (suc i) bytes) in
    let whole : (digits_after s bytes).0 ≡ (digits_after (10 * n + (get_or bytes i 0 - 48)) (drop (suc i) bytes)).0 = ap (λ (p : ℕ × List ℕ). p.0) (sym goes_on ∙ more) in
    digits_from-large s bytes (omega arith)

-- ---- a byte behind a number

-- a digit behind those read so far is read too
pub digits_after-goes_on : (s n i : ℕ) (bytes : List ℕ) → i < length bytes → is_ascii_digit (get_or bytes i 0) ≡ true → digits_after s bytes ≡ digits_after n (drop i bytes) → digits_after s bytes ≡ digits_after (10 * n + (get_or bytes i 0 - 48)) (drop (suc i) bytes)
digits_after-goes_on s n i bytes inside digit goes_on =
    goes_on ∙ ap (digits_after n) (drop-cons bytes i 0 inside) ∙ digits_after-digit n (get_or bytes i 0) (drop (suc i) bytes) digit

-- and where this byte is behind them, which is none, the number stands before it
pub number_before : (most end n i : ℕ) (bytes : List ℕ) → i < length bytes → get_or bytes i 0 ≡ end → is_ascii_digit end ≡ false → begins_with_number bytes ≡ true → digits_after 0 bytes ≡ digits_after n (drop i bytes) → n ≤ most → IsNumberBefore most end bytes n (drop i bytes)
number_before most end n i bytes inside is_end other begins goes_on bound =
    let cut : drop i bytes ≡ end ∷ drop (suc i) bytes = drop-cons bytes i 0 inside ∙ ap (λ b. b ∷ drop (suc i) bytes) is_end in
    let stops : digits_after n (drop i bytes) ≡ (n, drop i bytes) = rw cut (digits_after-end n (end ∷ drop (suc i) bytes) other) in
    let whole : digits_after 0 bytes ≡ (n, drop i bytes) = goes_on ∙ stops in
    let within : nat_le n most ≡ true = grind (arith, nat_tests) in
    record { number = rw (begins, whole, within) refl; ends = rw cut refl }

-- ---- digits

-- the byte of a digit is one
digit-is : (d : ℕ) → d < 10 → is_ascii_digit (48 + d) ≡ true
digit-is d less = grind (arith, nat_tests)

-- no digit lies below `0`
digit-low : (b : ℕ) → is_ascii_digit b ≡ true → 48 ≤ b
digit-low b h = grind (arith, nat_tests)

-- no digit lies past `9`
digit-high : (b : ℕ) → is_ascii_digit b ≡ true → b ≤ 57
digit-high b h = grind (arith, nat_tests)

-- ---- what is written behind a text

-- a digit is a number
pub written_digit : (before after : List ℕ) (n : ℕ) → n < 10 → after ≡ before ++ ((48 + n) ∷ []) → after ≡ before ++ decimal n
written_digit before after n small h = h ∙ ap (λ ds. before ++ ds) (sym (decimal_digit n small))

-- and a number and a digit are a number
pub written_digits : (before between after : List ℕ) (n : ℕ) → 10 ≤ n → n < 2 ^ 64 → between ≡ before ++ decimal (n / 10) → after ≡ between ++ ((48 + n % 10) ∷ []) → after ≡ before ++ decimal n
written_digits before between after n large small front last =
    last
    ∙ ap (λ ds. ds ++ ((48 + n % 10) ∷ [])) front
    ∙ append_assoc before (decimal (n / 10)) ((48 + n % 10) ∷ [])
    ∙ ap (λ ds. before ++ ds) (sym (decimal_step n (omega arith) (omega arith)))

-- so they are within room for one byte more
pub appended_digits : {Z : Type 0} (most : ℕ) (old between new : Vec ℕ Z) (n : ℕ) → 10 ≤ n → n < 2 ^ 64 → AppendsUpTo most (decimal (n / 10)) old between → new.items ≡ between.items ++ ((48 + n % 10) ∷ []) → vec_len new ≡ vec_len between + 1 → vec_capacity new ≡ vec_capacity between → AppendsUpTo (most + 1) (decimal n) old new
appended_digits most old between new n large small front is len capacity =
    record {
      is = written_digits old.items between.items new.items n large small front.is is;
      len = omega (arith, front.len, len);
      capacity = capacity ∙ front.capacity;
    }

-- ---- what was written is read

-- the digits of a number lead to it
digits_after-decimal : (n : ℕ) → n < 2 ^ 64 → (rest : List ℕ) → digits_after 0 (decimal n ++ rest) ≡ digits_after n rest
digits_after-decimal n small = decimal_by_steps (λ m ds. (rest : List ℕ) → digits_after 0 (ds ++ rest) ≡ digits_after m rest) one more n small
  where
    one : (m : ℕ) → m < 10 → (rest : List ℕ) → digits_after 0 ((48 + m) ∷ rest) ≡ digits_after m rest
    one m less rest =
        let value : 10 * 0 + ((48 + m) - 48) ≡ m = omega arith in
        digits_after-digit 0 (48 + m) rest (digit-is m less) ∙ ap (λ k. digits_after k rest) value

    more : (m : ℕ) (ds : List ℕ) → 10 ≤ m → ((rest : List ℕ) → digits_after 0 (ds ++ rest) ≡ digits_after (m / 10) rest) → (rest : List ℕ) → digits_after 0 ((ds ++ ((48 + m % 10) ∷ [])) ++ rest) ≡ digits_after m rest
    more m ds large so rest =
        let less : m % 10 < 10 = omega arith in
        let value : 10 * (m / 10) + ((48 + m % 10) - 48) ≡ m = omega arith in
        ap (digits_after 0) (append_assoc ds ((48 + m % 10) ∷ []) rest) ∙ so ((48 + m % 10) ∷ rest) ∙ digits_after-digit (m / 10) (48 + m % 10) rest (digit-is (m % 10) less) ∙ ap (λ k. digits_after k rest) value

-- but for 0, they begin with another digit than 0
begins-decimal : (n : ℕ) → n < 2 ^ 64 → 0 < n → (rest : List ℕ) → begins_with_number (decimal n ++ rest) ≡ true
begins-decimal n small = decimal_by_steps (λ m ds. 0 < m → (rest : List ℕ) → begins_with_number (ds ++ rest) ≡ true) one more n small
  where
    one : (m : ℕ) → m < 10 → 0 < m → (rest : List ℕ) → begins_with_number ((48 + m) ∷ rest) ≡ true
    one m less some rest =
        let other : eqb (48 + m) 48 ≡ false = grind (arith, nat_tests) in
        rw (digit-is m less, other) refl

    more : (m : ℕ) (ds : List ℕ) → 10 ≤ m → (0 < m / 10 → (rest : List ℕ) → begins_with_number (ds ++ rest) ≡ true) → 0 < m → (rest : List ℕ) → begins_with_number ((ds ++ ((48 + m % 10) ∷ [])) ++ rest) ≡ true
    more m ds large so some rest =
        let front : 0 < m / 10 = omega arith in
        ap begins_with_number (append_assoc ds ((48 + m % 10) ∷ []) rest) ∙ so front ((48 + m % 10) ∷ rest)

-- the decimal text of a number begins with a number, where no digit follows
begins-number : (n : ℕ) (rest : List ℕ) → n < 2 ^ 64 → begins_with_digit rest ≡ false → begins_with_number (decimal n ++ rest) ≡ true
begins-number zero rest small ends = rw (decimal_digit 0 (omega arith), ends) refl
begins-number (suc n) rest small ends = begins-decimal (suc n) small (omega arith) rest

-- a number that was written is read, whatever follows it that is no digit
pub number_at-decimal : (most n : ℕ) (rest : List ℕ) → n ≤ most → n < 2 ^ 64 → begins_with_digit rest ≡ false → number_at most (decimal n ++ rest) ≡ Some (n, rest)
number_at-decimal most n rest bound small ends =
    let value : digits_after 0 (decimal n ++ rest) ≡ (n, rest) = digits_after-decimal n small rest ∙ digits_after-end n rest ends in
    let within : nat_le n most ≡ true = grind (arith, nat_tests) in
    rw (begins-number n rest small ends, value, within) refl

-- one digit alone is read
pub one_digit : (b : ℕ) (rest : List ℕ) → 48 ≤ b → b ≤ 57 → begins_with_digit rest ≡ false → number_at (2 ^ 64 - 1) (b ∷ rest) ≡ Some (b - 48, rest)
one_digit b rest low high ends =
    let spelling : decimal (b - 48) ≡ b ∷ [] = decimal_digit (b - 48) (omega arith) ∙ ap (λ k. k ∷ []) (let e : 48 + (b - 48) ≡ b = omega arith in e) in
    ap (λ ds. number_at (2 ^ 64 - 1) (ds ++ rest)) (sym spelling) ∙ number_at-decimal (2 ^ 64 - 1) (b - 48) rest (omega arith) (omega arith) ends

-- and so are two
pub two_digits : (a b : ℕ) (rest : List ℕ) → 49 ≤ a → a ≤ 57 → 48 ≤ b → b ≤ 57 → begins_with_digit rest ≡ false → number_at (2 ^ 64 - 1) (a ∷ b ∷ rest) ≡ Some (10 * (a - 48) + (b - 48), rest)
two_digits a b rest some high low most ends =
    let front : (10 * (a - 48) + (b - 48)) / 10 ≡ a - 48 = omega arith in
    let last : 48 + (10 * (a - 48) + (b - 48)) % 10 ≡ b = omega arith in
    let tens : decimal (a - 48) ≡ a ∷ [] = decimal_digit (a - 48) (omega arith) ∙ ap (λ k. k ∷ []) (let e : 48 + (a - 48) ≡ a = omega arith in e) in
    let step : decimal (10 * (a - 48) + (b - 48)) ≡ decimal ((10 * (a - 48) + (b - 48)) / 10) ++ ((48 + (10 * (a - 48) + (b - 48)) % 10) ∷ []) = decimal_step (10 * (a - 48) + (b - 48)) (omega arith) (omega arith) in
    let spelling : decimal (10 * (a - 48) + (b - 48)) ≡ a ∷ b ∷ [] = step ∙ ap (λ k. decimal k ++ ((48 + (10 * (a - 48) + (b - 48)) % 10) ∷ [])) front ∙ ap (λ k. decimal (a - 48) ++ (k ∷ [])) last ∙ ap (λ ds. ds ++ (b ∷ [])) tens in
    ap (λ ds. number_at (2 ^ 64 - 1) (ds ++ rest)) (sym spelling) ∙ number_at-decimal (2 ^ 64 - 1) (10 * (a - 48) + (b - 48)) rest (omega arith) (omega arith) ends

-- ---- what is read was written

-- the digits after those of a number spell the whole
spelled : (n : ℕ) (bs rest : List ℕ) (m : ℕ) → 0 < n → digits_after n bs ≡ (m, rest) → m < 2 ^ 64 → (decimal n ++ bs ≡ decimal m ++ rest) × (begins_with_digit rest ≡ false)
spelled n [] rest m some h small =
    let number : n ≡ m = ap (λ (p : ℕ × List ℕ). p.0) h in
    let none : [] ≡ rest = ap (λ (p : ℕ × List ℕ). p.1) h in
    (ap (λ k. decimal k ++ []) number ∙ ap (λ r. decimal m ++ r) none, sym (ap begins_with_digit none))
spelled n (b ∷ bs) rest m some h small = elim (cases_Bool (is_ascii_digit b)) [
  | inl e ↦
      let goes_on : digits_after (10 * n + (b - 48)) bs ≡ (m, rest) = sym (digits_after-digit n b bs e) ∙ h in
      let low : 48 ≤ b = digit-low b e in
      let high : b ≤ 57 = digit-high b e in
      let least : 10 * n + (b - 48) ≤ (digits_after (10 * n + (b - 48)) bs).0 = digits_after-le _ bs in
      let value : (digits_after (10 * n + (b - 48)) bs).0 ≡ m = ap (λ (p : ℕ × List ℕ). p.0) goes_on in
      let more = spelled (10 * n + (b - 48)) bs rest m (omega arith) goes_on small in
      let step : decimal (10 * n + (b - 48)) ≡ decimal ((10 * n + (b - 48)) / 10) ++ ((48 + (10 * n + (b - 48)) % 10) ∷ []) = decimal_step (10 * n + (b - 48)) (omega arith) (omega arith) in
      let front : (10 * n + (b - 48)) / 10 ≡ n = omega arith in
      let last : 48 + (10 * n + (b - 48)) % 10 ≡ b = omega arith in
      let longer : decimal (10 * n + (b - 48)) ≡ decimal n ++ (b ∷ []) = step ∙ ap (λ k. decimal k ++ ((48 + (10 * n + (b - 48)) % 10) ∷ [])) front ∙ ap (λ k. decimal n ++ (k ∷ [])) last in
      (sym (append_assoc (decimal n) (b ∷ []) bs) ∙ ap (λ ds. ds ++ bs) (sym longer) ∙ more.0, more.1)
  | inr e ↦
      let stops : (n, b ∷ bs) ≡ (m, rest) = sym (digits_after-end n (b ∷ bs) e) ∙ h in
      let number : n ≡ m = ap (λ (p : ℕ × List ℕ). p.0) stops in
      let same : b ∷ bs ≡ rest = ap (λ (p : ℕ × List ℕ). p.1) stops in
      (ap (λ k. decimal k ++ (b ∷ bs)) number ∙ ap (λ r. decimal m ++ r) same, sym (ap begins_with_digit same) ∙ e)
]

-- what is found at the front of the bytes
pub record IsNumberAt (most : ℕ) (bytes : List ℕ) (n : ℕ) (rest : List ℕ) : Type 0 where
  pub text : bytes ≡ decimal n ++ rest
  pub bound : n ≤ most
  pub ends : begins_with_digit rest ≡ false

-- a text that begins with a number begins with the decimal text of that number, and no digit follows
number_of : (bytes rest : List ℕ) (n : ℕ) → begins_with_number bytes ≡ true → digits_after 0 bytes ≡ (n, rest) → n < 2 ^ 64 → (bytes ≡ decimal n ++ rest) × (begins_with_digit rest ≡ false)
number_of [] rest n begins h small = absurd (let k : false ≡ true = begins in cc)
number_of (b ∷ bs) rest n begins h small =
    let parts = and_parts (is_ascii_digit b) (not (eqb b 48 && begins_with_digit bs)) begins in
    let low : 48 ≤ b = digit-low b parts.0 in
    let high : b ≤ 57 = digit-high b parts.0 in
    let value : 10 * 0 + (b - 48) ≡ b - 48 = omega arith in
    let goes_on : digits_after (b - 48) bs ≡ (n, rest) = ap (λ k. digits_after k bs) (sym value) ∙ sym (digits_after-digit 0 b bs parts.0) ∙ h in
    let spelling : decimal (b - 48) ≡ b ∷ [] = decimal_digit (b - 48) (omega arith) ∙ ap (λ k. k ∷ []) (let e : 48 + (b - 48) ≡ b = omega arith in e) in
    elim (cases_Bool (eqb b 48)) [
      | inl e ↦
          let zero_is : b - 48 ≡ 0 = let k : b ≡ 48 = eqb-true b 48 e in omega arith in
          let stop : begins_with_digit bs ≡ false = not-true (begins_with_digit bs) (rw e at parts.1) in
          let ended : (b - 48, bs) ≡ (n, rest) = sym (digits_after-end (b - 48) bs stop) ∙ goes_on in
          let number : b - 48 ≡ n = ap (λ (p : ℕ × List ℕ). p.0) ended in
          let same : bs ≡ rest = ap (λ (p : ℕ × List ℕ). p.1) ended in
          (ap (λ ds. ds ++ bs) (sym spelling) ∙ ap (λ k. decimal k ++ bs) number ∙ ap (λ r. decimal n ++ r) same, sym (ap begins_with_digit same) ∙ stop)
      | inr e ↦
          let some : 0 < b - 48 = let k : b ≢ 48 = λ same. absurd (let f : false ≡ true = sym e ∙ eq-eqb b 48 same in cc) in omega arith in
          let more = spelled (b - 48) bs rest n some goes_on small in
          (ap (λ ds. ds ++ bs) (sym spelling) ∙ more.0, more.1)
    ]
  where
    not-true : (c : Bool) → not c ≡ true → c ≡ false
    not-true true k = absurd (let f : false ≡ true = k in cc)
    not-true false k = refl

-- a number that is read was written, no digit follows it, and it is at most the bound
pub number_at-Some : (most : ℕ) (bytes rest : List ℕ) (n : ℕ) → most < 2 ^ 64 → number_at most bytes ≡ Some (n, rest) → IsNumberAt most bytes n rest
number_at-Some most bytes rest n small h = elim (cases_Bool (begins_with_number bytes && nat_le (digits_after 0 bytes).0 most)) [
  | inl e ↦
      let parts = and_parts (begins_with_number bytes) (nat_le (digits_after 0 bytes).0 most) e in
      let whole : digits_after 0 bytes ≡ (n, rest) = let k : Some (digits_after 0 bytes) ≡ Some (n, rest) = rw e at h in cc in
      let value : (digits_after 0 bytes).0 ≡ n = ap (λ (p : ℕ × List ℕ). p.0) whole in
      let within : (digits_after 0 bytes).0 ≤ most = le_from parts.1 in
      let found = number_of bytes rest n parts.0 whole (omega arith) in
      record { text = found.0; bound = omega arith; ends = found.1 }
  | inr e ↦ absurd (let k : None ≡ Some (n, rest) = rw e at h in cc)
]
  where
    le_from : nat_le (digits_after 0 bytes).0 most ≡ true → (digits_after 0 bytes).0 ≤ most
    le_from k = grind (arith, nat_tests)
