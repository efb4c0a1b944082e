-- What was written of a text that is written as it comes, and what waits to be written.
use Rattle.std.proofs.Common.{◌≡◌, ℕ, ◌+◌, min, List, [], ◌++◌, length, take, Option, inl, inr, sym, ap, ◌∙◌, subst, refl, append_assoc, append-nil, arith}
use Rattle.std.proofs.Math.Seq.{take-append-add}
use Rattle.std.proofs.lemmas.List.{take-append-le, take_min}
use Rattle.std.specs.Io.KnownBytes.{Appends}
use Rattle.std.proofs.KnownBytes.{Appends-kept, Appends-nil, Appends-trans}
use Rattle.dine_streams.specs.Gathered.{MovesOn}

-- what was written, and the lines that wait, are the text so far
pub record IsWaiting (before now : Option (List ℕ)) (lines text : List ℕ) : Type 0 where
  pub done : List ℕ
  pub appended : Appends before now done
  pub joined : done ++ lines ≡ text

module _ (before : Option (List ℕ)) where
  -- nothing was written yet
  pub waiting-first : (text : List ℕ) → IsWaiting before before text text
  waiting-first text = record { done = []; appended = Appends-nil before; joined = refl }

  -- more lines wait
  pub waiting-more : (now : Option (List ℕ)) (lines after text more : List ℕ) → after ≡ lines ++ more → IsWaiting before now lines text → IsWaiting before now after (text ++ more)
  waiting-more now lines after text more e p = record {
    done = p.done;
    appended = p.appended;
    joined = ap (λ l. p.done ++ l) e ∙ sym (append_assoc p.done lines more) ∙ ap (λ l. l ++ more) p.joined;
  }

  -- the lines were written, or still wait
  pub waiting-moved : (now next : Option (List ℕ)) (lines after text : List ℕ) → IsWaiting before now lines text → MovesOn now next lines after → IsWaiting before next after text
  waiting-moved now next lines after text p (inl moved) = record {
    done = p.done ++ lines;
    appended = Appends-trans before now next p.done lines p.appended moved.0;
    joined = ap (λ l. (p.done ++ lines) ++ l) moved.1 ∙ append-nil (p.done ++ lines) ∙ p.joined;
  }
  waiting-moved now next lines after text p (inr stayed) = record {
    done = p.done;
    appended = Appends-kept before now next p.done p.appended stayed.0;
    joined = ap (λ l. p.done ++ l) stayed.1 ∙ p.joined;
  }

  -- all was written
  pub waiting-all : (now next : Option (List ℕ)) (lines text : List ℕ) → IsWaiting before now lines text → Appends now next lines → Appends before next text
  waiting-all now next lines text p q = subst (Appends before next) p.joined (Appends-trans before now next p.done lines p.appended q)

  -- a first part of the lines was written, and so of the text
  pub waiting-cut : (now next : Option (List ℕ)) (lines text rest all : List ℕ) (k : ℕ) → IsWaiting before now lines text → all ≡ text ++ rest → Appends now next (take k lines) → (n : ℕ) × Appends before next (take n all)
  waiting-cut now next lines text rest all k p goes_on q =
      let done = p.done in
      let few = min k (length lines) in
      let whole : all ≡ done ++ (lines ++ rest) = goes_on ∙ ap (λ l. l ++ rest) (sym p.joined) ∙ append_assoc done lines rest in
      let part : take (length done + few) all ≡ done ++ take k lines =
      ap (take (length done + few)) whole ∙ take-append-add done (lines ++ rest) few ∙ ap (λ l. done ++ l) (take-append-le few lines rest (omega arith) ∙ take_min k lines) in
      (length done + few, subst (Appends before next) (sym part) (Appends-trans before now next done (take k lines) p.appended q))

  -- nothing of what waits was written
  pub waiting-kept : (now : Option (List ℕ)) (lines text rest all : List ℕ) → IsWaiting before now lines text → all ≡ text ++ rest → (n : ℕ) × Appends before now (take n all)
  waiting-kept now lines text rest all p goes_on =
      let done = p.done in
      let whole : all ≡ done ++ (lines ++ rest) = goes_on ∙ ap (λ l. l ++ rest) (sym p.joined) ∙ append_assoc done lines rest in
      let part : take (length done + 0) all ≡ done ++ [] = ap (take (length done + 0)) whole ∙ take-append-add done (lines ++ rest) 0 in
      (length done + 0, subst (Appends before now) (sym (part ∙ append-nil done)) p.appended)
