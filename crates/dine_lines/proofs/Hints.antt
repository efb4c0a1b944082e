-- Which slots have a guess, and which names are bound then.
use Rattle.std.proofs.Common.{◌≡◌, ℕ, ◌<◌, ◌≤◌, ◌+◌, ◌^◌, true, ◌⊎◌, List, ◌∷◌, ◌++◌, [], length, take, drop, Option, Some, None, refl, sym, ap, subst, ◌∙◌, inl, inr, arith}
use Rattle.std.proofs.lemmas.Bool.{cases_eq, cases_Bool}
use Rattle.std.proofs.lemmas.Map.Entries.{place_from_lookup}
use Rattle.std.proofs.lemmas.Nat.{from_le_bytes-to_le_bytes_8}
use Rattle.std.proofs.lemmas.Option.{slice_get_within}
use Rattle.std.proofs.lemmas.Slice.Eq.{bytes_eq-Decides}
use Rattle.std.specs.Int.{from_le_bytes, to_le_bytes, w64}
use Rattle.std.specs.List.{AllZip, slice_get}
use Rattle.std.specs.Str.{bytes_eq}
use Rattle.dine_words.specs.declared.task.Task.{Task}
use Rattle.dine_lines.specs.Names.{Names, rebound, task_named}
use Rattle.dine_lines.specs.Padding.{padded}
use Rattle.std.specs.Prelude.{IfNone, IfSome}
use Rattle.dine_lines.specs.Hints.{AreNoted, IsTaken, IsVacant, slot_number, slot_of_name}

-- the slot that was picked has a guess, if there is such a slot
pub taken-picked : {X : Type 0} (number : X → ℕ) (picked : Option X) (places later : List ℕ) (slot : ℕ) → IfSome picked (λ s. number s ≡ slot) → IfNone picked (length places ≤ slot) → length later ≡ length places → IfSome picked (λ s. IsTaken later (number s)) → IsTaken later slot
taken-picked number None places later slot is past long taken = λ within. absurd (omega (arith, past, long, within))
taken-picked number (Some s) places later slot is past long taken = subst (IsTaken later) is taken

-- ---- which names are free

-- two numbers of eight letters each are those of the letters
pub halves-of : (name : List ℕ) (low high : ℕ) → low < 2 ^ 64 → high < 2 ^ 64 → padded name ≡ to_le_bytes w64 low ++ to_le_bytes w64 high → (shift : ℕ) → slot_of_name shift name ≡ slot_number shift low high
halves-of name low high small_low small_high letters shift =
    let first : from_le_bytes w64 (take 8 (padded name)) ≡ low = ap (λ l. from_le_bytes w64 (take 8 l)) letters ∙ from_le_bytes-to_le_bytes_8 low small_low in
    let last : from_le_bytes w64 (drop 8 (padded name)) ≡ high = ap (λ l. from_le_bytes w64 (drop 8 l)) letters ∙ from_le_bytes-to_le_bytes_8 high small_high in
    ap (λ n. slot_number shift n (from_le_bytes w64 (drop 8 (padded name)))) first ∙ ap (slot_number shift low) last

-- a name is free where its slot has no guess
pub free-at : (places : List ℕ) (shift : ℕ) (names : Names) (name : List ℕ) (low high : ℕ) → low < 2 ^ 64 → high < 2 ^ 64 → AreNoted places shift names → IsVacant places (slot_number shift low high) → padded name ≡ to_le_bytes w64 low ++ to_le_bytes w64 high → task_named names name ≡ None
free-at places shift names name low high small_low small_high noted vacant letters = by (task_named names name) refl
  where
    by : (found : Option Task) → task_named names name ≡ found → task_named names name ≡ None
    by None is = is
    by (Some t) is =
        let slot = halves-of name low high small_low small_high letters shift in
        absurd (subst (IsTaken places) slot (noted name t is) vacant.0 vacant.1)

-- ---- names that are noted

-- where slots keep their guesses, names stay noted
pub noted-kept : (places later : List ℕ) (shift : ℕ) (names : Names) → ((slot : ℕ) → IsTaken places slot → IsTaken later slot) → AreNoted places shift names → AreNoted later shift names
noted-kept places later shift names kept noted name t is = kept (slot_of_name shift name) (noted name t is)

-- a bound name is the one that was bound last, or one of those before
bound-before : (names : Names) (name other : List ℕ) (t u : Task) → task_named (rebound names name t) other ≡ Some u → (bytes_eq other name ≡ true) ⊎ ((v : Task) × (task_named names other ≡ Some v))
bound-before [] name other t u is = elim (cases_Bool (bytes_eq other name)) [
  | inl same ↦ inl same
  | inr differs ↦ let no : None ≡ Some u = rw differs at is in cc
]
bound-before (bound ∷ names) name other t u is = elim (cases_Bool (bytes_eq other bound.0)) [
  | inl same ↦ inr (bound.1, rw same refl)
  | inr differs ↦
      elim (cases_Bool (bytes_eq name bound.0)) [
        | inl again ↦ inr (u, rw differs (rw (again, differs) at is))
        | inr new ↦
            elim (bound-before names name other t u (rw (new, differs) at is)) [
              | inl same ↦ inl same
              | inr before ↦ inr (before.0, rw differs before.1)
            ]
      ]
]

-- so it is where that name goes last
bound-last : (names : Names) (name other : List ℕ) (t u : Task) → task_named (names ++ (name, t) ∷ []) other ≡ Some u → (bytes_eq other name ≡ true) ⊎ ((v : Task) × (task_named names other ≡ Some v))
bound-last [] name other t u is = bound-before [] name other t u is
bound-last (bound ∷ names) name other t u is = elim (cases_Bool (bytes_eq other bound.0)) [
  | inl same ↦ inr (bound.1, rw same refl)
  | inr differs ↦
      elim (bound-last names name other t u (rw differs at is)) [
        | inl same ↦ inl same
        | inr before ↦ inr (before.0, rw differs before.1)
      ]
]

-- the others stay noted where a name is bound that has a guess
pub noted-bound : (places : List ℕ) (shift : ℕ) (names : Names) (name : List ℕ) (t : Task) → AreNoted places shift names → IsTaken places (slot_of_name shift name) → AreNoted places shift (rebound names name t)
noted-bound places shift names name t noted taken other u is = elim (bound-before names name other t u is) [
  | inl same ↦ subst (λ n. IsTaken places (slot_of_name shift n)) (sym ((bytes_eq-Decides other name).0 same)) taken
  | inr before ↦ noted other before.0 before.1
]

-- and where it goes last
pub noted-last : (places : List ℕ) (shift : ℕ) (names : Names) (name : List ℕ) (t : Task) → AreNoted places shift names → IsTaken places (slot_of_name shift name) → AreNoted places shift (names ++ (name, t) ∷ [])
noted-last places shift names name t noted taken other u is = elim (bound-last names name other t u is) [
  | inl same ↦ subst (λ n. IsTaken places (slot_of_name shift n)) (sym ((bytes_eq-Decides other name).0 same)) taken
  | inr before ↦ noted other before.0 before.1
]

-- the name that stands at a place
pub name-at : (names : Names) (place : ℕ) (one other : List ℕ × Task) → Some one ≡ slice_get names place → slice_get names place ≡ Some other → other.0 ≡ one.0
name-at names place one other here at = ap (λ found. (option_else found one).0) (sym at ∙ sym here)
  where
    option_else : Option (List ℕ × Task) → List ℕ × Task → List ℕ × Task
    option_else None default = default
    option_else (Some bound) default = bound

-- the names before a place are noted
abbrev pub AreNotedBefore : List ℕ → ℕ → Names → ℕ → Type 0
AreNotedBefore places shift names place =
    (i : ℕ) (bound : List ℕ × Task) → i < place → slice_get names i ≡ Some bound → IsTaken places (slot_of_name shift bound.0)

-- so is the next one
pub noted-next : (places later : List ℕ) (shift : ℕ) (names : Names) (place : ℕ) → ((slot : ℕ) → IsTaken places slot → IsTaken later slot) → ((bound : List ℕ × Task) → slice_get names place ≡ Some bound → IsTaken later (slot_of_name shift bound.0)) → AreNotedBefore places shift names place → AreNotedBefore later shift names (place + 1)
noted-next places later shift names place kept next noted i bound low is = elim (cases_eq i place) [
  | inl same ↦ next bound (subst (λ k. slice_get names k ≡ Some bound) same is)
  | inr other ↦ kept (slot_of_name shift bound.0) (noted i bound (omega (arith, low, other)) is)
]

-- and all are in the end
pub noted-all : (places : List ℕ) (shift : ℕ) (names : Names) → AreNotedBefore places shift names (length names) → AreNoted places shift names
noted-all places shift names noted name t is =
    let found = place_from_lookup (bytes_eq name) names t is in
    let same : name ≡ found.1 = (bytes_eq-Decides name found.1).0 found.3 in
    subst (λ n. IsTaken places (slot_of_name shift n)) (sym same) (noted found.0 (found.1, t) (slice_get_within names found.0 (found.1, t) found.2) found.2)

-- names that are copied one by one are the same
pub same_names : (names copies : Names) → AllZip (λ one other. (other.0 ≡ one.0) × (other.1 ≡ one.1)) names copies → copies ≡ names
same_names [] [] same = refl
same_names [] (copy ∷ copies) same = absurd same
same_names (bound ∷ names) [] same = absurd same
same_names (bound ∷ names) (copy ∷ copies) same =
    let first : copy ≡ bound = ap (λ name. (name, copy.1)) same.0.0 ∙ ap (λ t. (bound.0, t)) same.0.1 in
    ap (λ one. one ∷ copies) first ∙ ap (λ rest. bound ∷ rest) (same_names names copies same.1)
