use Rattle.std.proofs.Common.{◌≡◌, ℕ, suc, ◌<◌, List, [], ◌∷◌, length, Option, Some, None, IfSome, refl, sym, ap, subst, ◌∙◌, arith, rules}
use Rattle.std.proofs.lemmas.Bool.Decides.{nat_tests}
use Rattle.dine_words.specs.Reading.{◌>>=◌}
use Rattle.toml.specs.Data.{Items}
use Rattle.toml.specs.declared.value.Value.{Value}
use Rattle.toml.specs.View.{items_view, view}
use Rattle.dine_scenario.specs.declared.scenario.TheConstants.{MAX_WORKERS}
use Rattle.dine_scenario.specs.Form.{each_worker, if_in_number, worker_in}
use Rattle.dine_scenario.specs.Plan.{WorkerPlan}
use Rattle.dine_scenario.proofs.table_form.WorkerForm.read_all.Goals as goal
use Rattle.dine_scenario.proofs.table_form.WorkerForm.read_all.Goals.{then-is_empty-via-then-is_empty, then-is_empty-via-else-is_empty+then-len-gt-MAX_WORKERS}

abbrev Found : Type 0
Found = Option (List (WorkerPlan (List ℕ)))

-- the list, if there is one, has this length
abbrev HasLength : Found → ℕ → Type 0
HasLength found n = IfSome found (λ workers. length workers ≡ n)

length-more : (worker : Option (WorkerPlan (List ℕ))) (more : Found) (n : ℕ) → HasLength more n → HasLength (worker >>= (λ w. more >>= (λ ws. Some (w ∷ ws)))) (suc n)
length-more None more n h = tt
length-more (Some w) None n h = tt
length-more (Some w) (Some ws) n h = omega (arith, h)

-- as many workers are found as there are values
length-each_worker : (vs : List Value) → HasLength (each_worker (items_view vs)) (length vs)
length-each_worker [] = refl
length-each_worker (v ∷ vs) = length-more (worker_in (view v)) (each_worker (items_view vs)) (length vs) (length-each_worker vs)

-- none are too few
none_found : (found : Found) → HasLength found 0 → found >>= if_in_number ≡ None
none_found None h = refl
none_found (Some []) h = refl
none_found (Some (w ∷ ws)) h = absurd (omega (arith, h))

-- and more than the most are too many
many_found : (found : Found) (n : ℕ) → HasLength found n → MAX_WORKERS < n → found >>= if_in_number ≡ None
many_found None n h many = refl
many_found (Some ws) n h many = grind (arith, nat_tests, h)

-- values that are none, or too many, are no workers of a scenario
too_few : (vs : List Value) → length vs ≡ 0 → each_worker (items_view vs) >>= if_in_number ≡ None
too_few vs empty =
    let P : ℕ → Type 0 = λ n. HasLength (each_worker (items_view vs)) n in
    none_found (each_worker (items_view vs)) (subst P empty (length-each_worker vs))

too_many : (vs : List Value) → MAX_WORKERS < length vs → each_worker (items_view vs) >>= if_in_number ≡ None
too_many vs many = many_found (each_worker (items_view vs)) (length vs) (length-each_worker vs) many

pub returns-then-is_empty-clause-read : goal.returns-then-is_empty-clause-read
returns-then-is_empty-clause-read c = λ _.
    let vs = c.in-Some.values.now.items in
    let none : each_worker (items_view vs) >>= if_in_number ≡ None =
    elim c.then-is_empty.branch [
      | then-is_empty-via-then-is_empty w ↦ too_few vs (grind (arith, nat_tests))
      | then-is_empty-via-else-is_empty+then-len-gt-MAX_WORKERS w ↦ too_many vs (search rules)
    ] in
    (refl, ap (λ (found : Option Items). found >>= each_worker >>= if_in_number) (sym c.in-Some.ensures) ∙ none)
