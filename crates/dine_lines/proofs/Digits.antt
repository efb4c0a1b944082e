-- The digits of a number are printable.
use Rattle.std.proofs.Common.{◌≡◌, ℕ, ◌+◌, ◌%◌, ◌^◌, ◌≤◌, ◌<◌, true, List, map, [], ◌∷◌, ◌++◌, decimal, Result, Ok, Err, OnOk, OnErr, refl, arith}
use Rattle.std.specs.List.{list_all}
use Rattle.std.proofs.lemmas.Fmt.{decimal_by_steps}
use Rattle.std.proofs.lemmas.List.{map-append}
use Rattle.std.proofs.lemmas.List.Folds.{list_all-append}
use Rattle.std.proofs.lemmas.Bool.Decides.{nat_tests}
use Rattle.dine_lines.specs.Printable.{is_printable, shown}

-- a digit is printable
digit-printable : (d : ℕ) → d < 10 → is_printable (48 + d) ≡ true
digit-printable d less = grind (arith, nat_tests)

-- a terminal prints every digit of a number
decimal_is_printable : (n : ℕ) → n < 2 ^ 64 → list_all is_printable (decimal n) ≡ true
decimal_is_printable = decimal_by_steps (λ _ digits. list_all is_printable digits ≡ true) one more
  where
    one : (n : ℕ) → n < 10 → list_all is_printable ((48 + n) ∷ []) ≡ true
    one n less = rw (digit-printable n less) refl

    more : (n : ℕ) (digits : List ℕ) → 10 ≤ n → list_all is_printable digits ≡ true → list_all is_printable (digits ++ ((48 + n % 10) ∷ [])) ≡ true
    more n digits large front = rw (list_all-append is_printable digits ((48 + n % 10) ∷ []), front, digit-printable (n % 10) (omega arith)) refl

-- and shows it as it is
pub decimal_is_shown : (n : ℕ) → n < 2 ^ 64 → map shown (decimal n) ≡ decimal n
decimal_is_shown = decimal_by_steps (λ _ digits. map shown digits ≡ digits) one more
  where
    one : (n : ℕ) → n < 10 → map shown ((48 + n) ∷ []) ≡ (48 + n) ∷ []
    one n less = rw (digit-printable n less) refl

    more : (n : ℕ) (digits : List ℕ) → 10 ≤ n → map shown digits ≡ digits → map shown (digits ++ ((48 + n % 10) ∷ [])) ≡ digits ++ ((48 + n % 10) ∷ [])
    more n digits large front = rw (map-append shown digits ((48 + n % 10) ∷ []), front, digit-printable (n % 10) (omega arith)) refl

-- what is said is printable with a number behind it, and without it where there was no room
pub told_number : {A E : Type 0} (result : Result A E) (before after : List ℕ) (n : ℕ) → n < 2 ^ 64 → list_all is_printable before ≡ true → OnOk result (after ≡ before ++ decimal n) → OnErr result (after ≡ before) → list_all is_printable after ≡ true
told_number (Ok _) before after n small printable more same = rw (more, list_all-append is_printable before (decimal n), printable, decimal_is_printable n small) refl
told_number (Err _) before after n small printable more same = rw same printable
