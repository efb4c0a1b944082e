-- Limits are their two numbers: that these are in range is no more than a fact.
use Rattle.std.proofs.Common.{◌≡◌, ℕ, ◌≤◌, List, ap, ◌∙◌, subst}
use Rattle.std.specs.Coded.{le_prop}
use Rattle.dine_words.specs.declared.limits.Limits.{Limits}
use Rattle.dine_words.specs.Ranges.{most_conflicts, most_tasks}
use Rattle.dine_lines.specs.declared.print.Print.{Print}
use Rattle.dine_script.specs.Script.{script_output}

-- limits of two numbers that are in range
made : (t c : ℕ) → 1 ≤ t → t ≤ most_tasks → 1 ≤ c → c ≤ most_conflicts → Limits
made t c p q r s = record { tasks = t; conflicts = c; some_tasks = p; tasks_in_range = q; some_conflicts = r; conflicts_in_range = s }

-- these limits are what those two numbers make, whatever shows that they are in range
abbrev AreOf : Limits → ℕ → ℕ → Type 0
AreOf a t c = (p : 1 ≤ t) (q : t ≤ most_tasks) (r : 1 ≤ c) (s : c ≤ most_conflicts) → a ≡ made t c p q r s

-- limits are those that their own two numbers make
of-their-own : (a : Limits) → AreOf a a.tasks a.conflicts
unfolding made
of-their-own a p q r s =
    ap (λ (x : 1 ≤ a.tasks). made a.tasks a.conflicts x a.tasks_in_range a.some_conflicts a.conflicts_in_range) (le_prop a.some_tasks p)
    ∙ ap (λ (x : a.tasks ≤ most_tasks). made a.tasks a.conflicts p x a.some_conflicts a.conflicts_in_range) (le_prop a.tasks_in_range q)
    ∙ ap (λ (x : 1 ≤ a.conflicts). made a.tasks a.conflicts p q x a.conflicts_in_range) (le_prop a.some_conflicts r)
    ∙ ap (λ (x : a.conflicts ≤ most_conflicts). made a.tasks a.conflicts p q r x) (le_prop a.conflicts_in_range s)

-- limits with the same two numbers are one
pub same-limits : (a b : Limits) → a.tasks ≡ b.tasks → a.conflicts ≡ b.conflicts → a ≡ b
unfolding made
same-limits a b tasks conflicts =
    let of-both : AreOf a b.tasks a.conflicts = subst (λ (t : ℕ). AreOf a t a.conflicts) tasks (of-their-own a) in
    subst (AreOf a b.tasks) conflicts of-both b.some_tasks b.tasks_in_range b.some_conflicts b.conflicts_in_range

-- a script's output at limits that were made is that at any with the same two numbers
pub same-output : (a b : Limits) → a.tasks ≡ b.tasks → a.conflicts ≡ b.conflicts → (asked wanted : Print) → asked ≡ wanted → (script text : List ℕ) → text ≡ script_output asked a script → text ≡ script_output wanted b script
same-output a b tasks conflicts asked wanted print script text is =
    is ∙ ap (λ p. script_output p a script) print ∙ ap (λ l. script_output wanted l script) (same-limits a b tasks conflicts)
