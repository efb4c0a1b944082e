-- Tests on tasks.
use Rattle.std.proofs.Common.{◌≡◌, ℕ, true, eqb, refl, ap, ◌∙◌, arith}
use Rattle.std.proofs.lemmas.Bool.{and_parts, and_from, eq-eqb, eqb-true}
use Rattle.std.proofs.lemmas.Bool.Decides.{nat_tests}
use Rattle.dine_words.specs.declared.task.Task.{Task}
use Rattle.dine_table.specs.Table.{same_task}

-- a task is one with itself
pub same_task-refl : (u : Task) → same_task u u ≡ true
same_task-refl u = and_from (eqb u.slot u.slot) (eqb u.born u.born) (eq-eqb u.slot u.slot refl) (eq-eqb u.born u.born refl)

-- two tasks that are told to be one are one
pub same_task-true : (a b : Task) → same_task a b ≡ true → a ≡ b
same_task-true a b h =
    let slots : a.slot ≡ b.slot = eqb-true _ _ (and_parts (eqb a.slot b.slot) (eqb a.born b.born) h).0 in
    let borns : a.born ≡ b.born = eqb-true _ _ (and_parts (eqb a.slot b.slot) (eqb a.born b.born) h).1 in
    let of : ℕ → ℕ → Task = λ s n. record { slot = s; born = n } in
    ap (λ s. of s a.born) slots ∙ ap (λ n. of b.slot n) borns

-- whether two names are one task's may be asked in either order
pub same_task-sym : (a b : Task) → same_task a b ≡ same_task b a
same_task-sym a b = grind (arith, nat_tests)
