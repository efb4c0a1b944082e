-- The exchange that writes an entry into the book keeps the book's rule.
use Rattle.std.proofs.Common.{◌≡◌, ℕ, ◌+◌, ◌<◌, ◌≤◌, ◌==◌, ◌∙◌, Bool, true, false, List, [], ◌∷◌, ◌++◌, length, refl, ap, sym, subst, arith, inl, length-append, None}
use Rattle.std.specs.Prelude.{MatchBool}
use Rattle.std.proofs.lemmas.List.{append-nil}
use Rattle.std.proofs.lemmas.Bool.Decides.{nat_tests}
use mathlib.Core.List.{IsPrefix}
use prog.Atomic.{either}
use Rattle.logbook.specs.Pages.{Cell, cell, keeps, no_nib, step, Moves, Goes}
use Rattle.dine_words.specs.declared.entry.Entry.{Entry}
use Rattle.dine_front.specs.Published.{IsCountedBy, Writes}
use Rattle.dine_front.proofs.Prefixes.{as_long_as_whole}

-- those who use the book keep nothing beside it
abbrev pub nothing_shown : List Entry → List Entry
nothing_shown log = []

-- so whatever becomes of what they see is right
abbrev pub whatever : List Entry → List Entry → ℕ → Type 0
whatever before after answer = Unit {0}

-- a book with this counter and this log lets the exchange by, of one who has seen the list
abbrev LetsBy : List Entry → Entry → ℕ → List Cell → List Entry → Type 0
LetsBy seen e old cells log = Goes IsCountedBy nothing_shown whatever 0 (seen, (no_nib, None)) (λ n. either (n == old) (old + 1) n) (Writes (step 0 old (old + 1) e) (seen, (no_nib, None))) cells log

-- the counter of a book with this log
abbrev counted : List Entry → List Cell
counted log = (length log, true) ∷ (0, true) ∷ []

-- where the counter is what was expected, all was seen, and the entry is written behind it
writes_the_next : (log seen : List Entry) (e : Entry) (old : ℕ) → old ≤ length seen → IsPrefix seen log → (length log == old) ≡ true → LetsBy seen e old (counted log) log
writes_the_next log seen e old len begins is =
    let here : length log ≡ old = grind (arith, nat_tests) in
    let all : seen ≡ log = as_long_as_whole seen log begins (omega (arith, len, here)) in
    let count : length seen ≡ old = ap length all ∙ here in
    let next : either (length log == old) (old + 1) (length log) ≡ length (log ++ e ∷ []) = rw is (omega (arith, length-append log (e ∷ []))) in (
      keeps,
      e ∷ [],
      None,
      tt,
      record { words = ap (λ (n : ℕ). (n, true) ∷ (0, true) ∷ []) next },
      inl (refl, refl),
      rw is (count, ap (λ l. l ++ e ∷ []) (sym all)),
    )

-- where it is not, nothing is written
writes_nothing : (log seen : List Entry) (e : Entry) (old : ℕ) → (length log == old) ≡ false → LetsBy seen e old (counted log) log
writes_nothing log seen e old is =
    let same : either (length log == old) (old + 1) (length log) ≡ length (log ++ []) = rw is (ap length (sym (append-nil log))) in (
      keeps,
      [],
      None,
      tt,
      record { words = ap (λ (n : ℕ). (n, true) ∷ (0, true) ∷ []) same },
      inl (refl, refl),
      rw is tt,
    )

-- one or the other
lets_by : (log seen : List Entry) (e : Entry) (old : ℕ) → old ≤ length seen → IsPrefix seen log → (b : Bool) → (length log == old) ≡ b → LetsBy seen e old (counted log) log
lets_by log seen e old len begins true is = writes_the_next log seen e old len begins is
lets_by log seen e old len begins false is = writes_nothing log seen e old is

-- so the exchange keeps the rule, whatever the book is
pub writing_moves : (seen : List Entry) (e : Entry) (old : ℕ) → old ≤ length seen
    → Moves IsCountedBy nothing_shown whatever 0 (seen, (no_nib, None)) (λ n. either (n == old) (old + 1) n) (Writes (step 0 old (old + 1) e) (seen, (no_nib, None)))
writing_moves seen e old len cells log kept begins away =
    let P : List Cell → Type 0 = λ c. (0 < length c) × ((cell c 0).1 ≡ true) × LetsBy seen e old c log in
    subst P (sym kept.words) (omega arith, refl, lets_by log seen e old len begins (length log == old) refl)

-- a case that is known
in_case : (b : Bool) (P Q : Type 0) → b ≡ true → MatchBool b P Q → P
in_case true P Q is both = both
in_case false P Q is both = absurd cc

-- what the exchange told where it found what was expected
pub told_if_found : (found old : ℕ) (P : Type 0) → found ≡ old → MatchBool (found == old) P (Unit {0}) → P
told_if_found found old P is both = in_case (found == old) P (Unit {0}) (let same : (found == old) ≡ true = grind (arith, nat_tests) in same) both
