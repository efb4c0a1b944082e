-- A header that is read was written, and one that was written is read.
use Rattle.std.proofs.Common.{◌≡◌, ℕ, ◌≤◌, true, false, ◌&&◌, cond, nat_le, List, [], ◌∷◌, ◌++◌, Option, Some, None, inl, inr, refl, sym, ap, subst, ◌∙◌, append_assoc, lit≤, arith, decimal, codes}
use Rattle.std.proofs.lemmas.Bool.{cases_Bool, and_parts}
use Rattle.std.proofs.lemmas.Bool.Decides.{nat_tests}
use Rattle.dine_words.specs.declared.limits.Limits.{Limits}
use Rattle.dine_words.specs.declared.version.JournalVersion.{JournalVersion}
use Rattle.dine_words.specs.declared.version.JournalVersion.TheVariants.{One, Two}
use Rattle.dine_words.specs.Ranges.{most_conflicts, most_tasks}
use Rattle.dine_words.specs.Versions.{AllowsLimits, most_conflicts_of, most_tasks_of, opening_of}
use Rattle.dine_words.specs.Texts.{header_of, header_text}
use Rattle.dine_words.specs.Reading.{begins_with_digit, header_at, number_at, version_at, word_at}
use Rattle.dine_words.proofs.Numbers.{number_at-decimal, number_at-Some}
use Rattle.dine_words.proofs.Spelling.{bind-Some, first_read-Some}
use Rattle.dine_words.proofs.Words.{word_at-Some}

-- each version's range of tasks is within that of limits
pub few_tasks_of : (v : JournalVersion) → most_tasks_of v ≤ most_tasks
few_tasks_of One = lit≤ tt
few_tasks_of Two = lit≤ tt

-- and so is its range of conflicts
pub few_conflicts_of : (v : JournalVersion) → most_conflicts_of v ≤ most_conflicts
few_conflicts_of One = lit≤ tt
few_conflicts_of Two = lit≤ tt

-- the opening of a header is read
version_at-text : (v : JournalVersion) (rest : List ℕ) → version_at (opening_of v ++ rest) ≡ Some (v, rest)
version_at-text One rest = refl
version_at-text Two rest = refl

-- and no other is
version_at-Some : (bytes rest : List ℕ) (v : JournalVersion) → version_at bytes ≡ Some (v, rest) → bytes ≡ opening_of v ++ rest
version_at-Some bytes rest v h = first_read-Some opening_of (Two ∷ One ∷ []) bytes rest v h

-- what is found of a header
abbrev Found : Type 0
Found = JournalVersion × ℕ × ℕ × List ℕ

-- a header that passed the test of its least limits has both of them
header_passed : (v w : JournalVersion) (a b : ℕ) (r : List ℕ) (tasks conflicts : ℕ) (rest : List ℕ) → ◌≡◌ {A = Option Found} (cond (nat_le 1 a && nat_le 1 b) (Some (v, a, b, r)) None) (Some (w, tasks, conflicts, rest)) → ((1 ≤ a) × (1 ≤ b)) × ◌≡◌ {A = Found} (v, a, b, r) (w, tasks, conflicts, rest)
header_passed v w a b r tasks conflicts rest h = elim (cases_Bool (nat_le 1 a && nat_le 1 b)) [
  | inl e ↦
      let parts = and_parts (nat_le 1 a) (nat_le 1 b) e in
      let same : ◌≡◌ {A = Option Found} (Some (v, a, b, r)) (Some (w, tasks, conflicts, rest)) = rw e at h in
      let of : Option Found → Found = λ o. elim o [ None ↦ (v, a, b, r) | Some p ↦ p ] in
      ((le_from 1 a parts.0, le_from 1 b parts.1), ap of same)
  | inr e ↦ absurd (let k : ◌≡◌ {A = Option Found} None (Some (w, tasks, conflicts, rest)) = rw e at h in cc)
]
  where
    le_from : (m n : ℕ) → nat_le m n ≡ true → m ≤ n
    le_from m n k = grind (arith, nat_tests)

-- the parts of a header's text, with what follows, grouped as a reader meets them
grouped_header : (opening a b rest : List ℕ) → (opening ++ a ++ codes " " ++ b) ++ rest ≡ opening ++ (a ++ (codes " " ++ (b ++ rest)))
grouped_header opening a b rest = simp append_assoc refl

-- what is found of a header at the front of the bytes
pub record IsHeaderAt (bytes : List ℕ) (v : JournalVersion) (tasks conflicts : ℕ) (rest : List ℕ) : Type 0 where
  pub text : bytes ≡ header_of v tasks conflicts ++ rest
  pub some_tasks : 1 ≤ tasks
  pub few_tasks : tasks ≤ most_tasks_of v
  pub some_conflicts : 1 ≤ conflicts
  pub few_conflicts : conflicts ≤ most_conflicts_of v

-- a header of the version is read, whatever follows it that is no digit
pub header_at-text : (v : JournalVersion) (limits : Limits) (rest : List ℕ) → AllowsLimits v limits → begins_with_digit rest ≡ false → header_at (header_text v limits ++ rest) ≡ Some (v, limits.tasks, limits.conflicts, rest)
header_at-text v limits rest allowed ends =
    let within_tasks = limits.tasks_in_range in
    let within_conflicts = limits.conflicts_in_range in
    let opening = version_at-text v (decimal limits.tasks ++ (codes " " ++ (decimal limits.conflicts ++ rest))) in
    let tasks = number_at-decimal (most_tasks_of v) limits.tasks (codes " " ++ (decimal limits.conflicts ++ rest)) allowed.0 (omega arith) refl in
    let conflicts = number_at-decimal (most_conflicts_of v) limits.conflicts rest allowed.1 (omega arith) ends in
    let some_tasks : nat_le 1 limits.tasks ≡ true = le_test 1 limits.tasks limits.some_tasks in
    let some_conflicts : nat_le 1 limits.conflicts ≡ true = le_test 1 limits.conflicts limits.some_conflicts in
    ap header_at (grouped_header (opening_of v) (decimal limits.tasks) (decimal limits.conflicts) rest) ∙ rw (opening, tasks, conflicts, some_tasks, some_conflicts) refl
  where
    le_test : (a b : ℕ) → a ≤ b → nat_le a b ≡ true
    le_test a b h = grind (arith, nat_tests)

-- a header that is read was written, and is within the ranges of its version
pub header_at-Some : (bytes rest : List ℕ) (v : JournalVersion) (tasks conflicts : ℕ) → header_at bytes ≡ Some (v, tasks, conflicts, rest) → IsHeaderAt bytes v tasks conflicts rest
header_at-Some bytes rest v tasks conflicts h =
    let (opening, at_opening, h1) = bind-Some (version_at bytes) _ _ h in
    let few = few_tasks_of opening.0 in
    let few_too = few_conflicts_of opening.0 in
    let (first, at_first, h2) = bind-Some (number_at (most_tasks_of opening.0) opening.1) _ _ h1 in
    let (space, at_space, h3) = bind-Some (word_at (codes " ") first.1) _ _ h2 in
    let (second, at_second, h4) = bind-Some (number_at (most_conflicts_of opening.0) space) _ _ h3 in
    let one = number_at-Some (most_tasks_of opening.0) opening.1 first.1 first.0 (omega arith) at_first in
    let two_is = number_at-Some (most_conflicts_of opening.0) space second.1 second.0 (omega arith) at_second in
    let (tests, same) = header_passed opening.0 v first.0 second.0 second.1 tasks conflicts rest h4 in
    let joined : bytes ≡ opening_of opening.0 ++ (decimal first.0 ++ (codes " " ++ (decimal second.0 ++ second.1))) =
    version_at-Some bytes opening.1 opening.0 at_opening
    ∙ ap (λ r. opening_of opening.0 ++ r) (one.text
    ∙ ap (λ r. decimal first.0 ++ r) (word_at-Some (codes " ") first.1 space at_space
    ∙ ap (λ r. codes " " ++ r) two_is.text)) in
    let here : IsHeaderAt bytes opening.0 first.0 second.0 second.1 = record {
      text = joined ∙ sym (grouped_header (opening_of opening.0) (decimal first.0) (decimal second.0) second.1);
      some_tasks = tests.0;
      few_tasks = one.bound;
      some_conflicts = tests.1;
      few_conflicts = two_is.bound;
    } in
    subst (λ (p : Found). IsHeaderAt bytes p.0 p.1 p.2 p.3) same here
