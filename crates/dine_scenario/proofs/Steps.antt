-- One more line, and what is asked from then on.
use Rattle.std.proofs.Common.{◌≡◌, ℕ, ◌+◌, ◌<◌, ◌≤◌, List, [], ◌∷◌, ◌++◌, length, get_or, drop, Result, Ok, Err, Bor, append_assoc, append-nil, refl, sym, ap, ◌∙◌}
use Rattle.std.proofs.lemmas.List.{drop_all, drop_more}
use Rattle.dine_lines.specs.declared.line_fault.LineFault.{LineFault}
use Rattle.dine_scenario.specs.declared.scenario_fault.ScenarioFault.{ScenarioFault}
use Rattle.dine_scenario.specs.Asked.{◌>>=◌}
use Rattle.dine_scenario.specs.Lent.{lent}
use Rattle.dine_scenario.specs.Scenarios.{all_asked, or_fault}
use Rattle.dine_scenario.proofs.Progress.{read_before}

-- one more, before the rest
pub read_before-push : {A : Type 0} (done : List A) (first : A) (rest : Result (List A) ScenarioFault) → read_before done (rest >>= (λ more. Ok (first ∷ more))) ≡ read_before (done ++ first ∷ []) rest
read_before-push done first (Ok more) = ap Ok (sym (append_assoc done (first ∷ []) more))
read_before-push done first (Err e) = refl

module _ {A : Type 0} (read : List (List ℕ) → List ℕ → Result A LineFault) (after : List (List ℕ) → A → List (List ℕ)) (fault_at : ℕ → LineFault → ScenarioFault) where
  -- the next line asks for something
  pub all_asked-more : (lines : List (Bor (List ℕ))) (i n : ℕ) (d : Bor (List ℕ)) (known known' : List (List ℕ)) (done : List A) (first : A) → i < length lines → read known (get_or lines i d).now ≡ Ok first → known' ≡ after known first → read_before done (all_asked read after fault_at n known (lent (drop i lines))) ≡ read_before (done ++ first ∷ []) (all_asked read after fault_at (n + 1) known' (lent (drop (i + 1) lines)))
  all_asked-more lines i n d known known' done first inside ok same =
      ap (λ (rest : List (Bor (List ℕ))). read_before done (all_asked read after fault_at n known (lent rest))) (drop_more lines i d inside)
      ∙ ap (λ (found : Result A LineFault). read_before done (or_fault (fault_at n) found >>= (λ x. all_asked read after fault_at (n + 1) (after known x) (lent (drop (i + 1) lines)) >>= (λ more. Ok (x ∷ more))))) ok
      ∙ read_before-push done first (all_asked read after fault_at (n + 1) (after known first) (lent (drop (i + 1) lines)))
      ∙ ap (λ (k : List (List ℕ)). read_before (done ++ first ∷ []) (all_asked read after fault_at (n + 1) k (lent (drop (i + 1) lines)))) (sym same)

  -- the next line has a fault
  pub all_asked-stopped : (lines : List (Bor (List ℕ))) (i n : ℕ) (d : Bor (List ℕ)) (known : List (List ℕ)) (done : List A) (kind : LineFault) → i < length lines → read known (get_or lines i d).now ≡ Err kind → read_before done (all_asked read after fault_at n known (lent (drop i lines))) ≡ Err (fault_at n kind)
  all_asked-stopped lines i n d known done kind inside fails =
      ap (λ (rest : List (Bor (List ℕ))). read_before done (all_asked read after fault_at n known (lent rest))) (drop_more lines i d inside)
      ∙ ap (λ (found : Result A LineFault). read_before done (or_fault (fault_at n) found >>= (λ x. all_asked read after fault_at (n + 1) (after known x) (lent (drop (i + 1) lines)) >>= (λ more. Ok (x ∷ more))))) fails

  -- no line is left
  pub all_asked-end : (lines : List (Bor (List ℕ))) (i n : ℕ) (known : List (List ℕ)) (done : List A) → length lines ≤ i → read_before done (all_asked read after fault_at n known (lent (drop i lines))) ≡ Ok done
  all_asked-end lines i n known done past =
      ap (λ (rest : List (Bor (List ℕ))). read_before done (all_asked read after fault_at n known (lent rest))) (drop_all i lines past)
      ∙ ap Ok (append-nil done)
