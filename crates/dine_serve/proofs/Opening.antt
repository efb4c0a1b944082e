-- What is written after a first line.
use Rattle.dine_serve.proofs.Words.{◌≡◌, ℕ, List, [], ◌∷◌, ◌++◌, Option, IfSome, sym, subst, append-nil, flat_map-append, Appends-kept, Appends-nil, Appends-trans, Appends, Keeps, seen_lines, Broker, said_from, AppendsLinesOf, AppendsPartOf, HasAnswered, text_of_lines}
use Rattle.dine_serve.proofs.Answering.{for_all_known, lines-later, of_known, part-later}

-- nothing is written
pub nothing-written : (input old new : Option (List ℕ)) (lines : List ℕ → List (List ℕ)) → Keeps old new → IfSome input (λ all. AppendsLinesOf old new (lines all))
nothing-written input old new lines kept = for_all_known input (λ all. AppendsLinesOf old new (lines all)) (λ all. (0, Appends-kept old old new [] (Appends-nil old) kept))

-- a part of the first line is written
pub first-in_part : (h : List ℕ) (input old new : Option (List ℕ)) (lines : List ℕ → List (List ℕ)) → AppendsPartOf old new (text_of_lines (h ∷ [])) → IfSome input (λ all. AppendsPartOf old new (text_of_lines (h ∷ lines all)))
first-in_part h input old new lines part = for_all_known input (λ all. AppendsPartOf old new (text_of_lines (h ∷ lines all))) (λ all. part-later old old new [] (h ∷ []) (lines all) (Appends-nil old) part)

module _ (h : List ℕ) (input old mid new : Option (List ℕ)) (lines : List ℕ → List (List ℕ)) (wrote : Appends old mid (text_of_lines (h ∷ []))) where
  -- behind the first line all others are written
  pub headed-all : IfSome input (λ all. Appends mid new (text_of_lines (lines all))) → IfSome input (λ all. Appends old new (text_of_lines (h ∷ lines all)))
  headed-all =
      of_known input (λ all. Appends mid new (text_of_lines (lines all))) (λ all. Appends old new (text_of_lines (h ∷ lines all)))
      (λ all more. subst (Appends old new) (sym (flat_map-append (λ (line : List ℕ). line ++ 10 ∷ []) (h ∷ []) (lines all))) (Appends-trans old mid new _ _ wrote more))

  -- behind the first line some whole lines are written
  pub headed-in_lines : IfSome input (λ all. AppendsLinesOf mid new (lines all)) → IfSome input (λ all. AppendsLinesOf old new (h ∷ lines all))
  headed-in_lines =
      of_known input (λ all. AppendsLinesOf mid new (lines all)) (λ all. AppendsLinesOf old new (h ∷ lines all))
      (λ all more. subst (AppendsLinesOf old new) (append-nil (h ∷ lines all)) (lines-later old mid new (h ∷ []) (lines all) [] wrote more))

  -- behind the first line a part of the others is written
  pub headed-in_part : IfSome input (λ all. AppendsPartOf mid new (text_of_lines (lines all))) → IfSome input (λ all. AppendsPartOf old new (text_of_lines (h ∷ lines all)))
  headed-in_part =
      of_known input (λ all. AppendsPartOf mid new (text_of_lines (lines all))) (λ all. AppendsPartOf old new (text_of_lines (h ∷ lines all)))
      (λ all more. subst (λ l. AppendsPartOf old new (text_of_lines l)) (append-nil (h ∷ lines all)) (part-later old mid new (h ∷ []) (lines all) [] wrote more))

-- so it is where a read fails
pub headed-answered : (h : List ℕ) (s s' : Broker) (input rest old mid new : Option (List ℕ)) → s' ≡ s → Appends old mid (text_of_lines (h ∷ [])) → HasAnswered s' [] input rest mid new → HasAnswered s (h ∷ []) input rest old new
headed-answered h s s' input rest old mid new same wrote a = subst (λ t. HasAnswered t (h ∷ []) input rest old new) same (record {
  heard = a.heard;
  consumed = a.consumed;
  written = subst (Appends old new) (sym (flat_map-append (λ (line : List ℕ). line ++ 10 ∷ []) (h ∷ []) (said_from s' (seen_lines [] a.heard)))) (Appends-trans old mid new _ _ wrote a.written);
})
