-- Bytes that are read into room behind those that came before.
use Rattle.std.proofs.Common.{◌≡◌, ℕ, ◌+◌, List, ◌++◌, length, take, drop, Option, sym, ap, ◌∙◌, subst, arith}
use Rattle.std.proofs.Math.Seq.{take-add, take-append_seam}
use Rattle.std.proofs.lemmas.List.{drop-drop, drop-take, take-take}
use Rattle.std.proofs.KnownBytes.{Consumes-trans}
use Rattle.std.specs.Io.KnownBytes.{Consumes}

-- what was there before stays
stays-front : (filled came : ℕ) (before after : List ℕ) → take (filled + came) after ≡ take (filled + came) before → take filled after ≡ take filled before
stays-front filled came before after stays =
    sym (take-take filled (filled + came) after (omega arith)) ∙ ap (take filled) stays ∙ take-take filled (filled + came) before (omega arith)

-- and so does what came behind it
stays-behind : (filled came : ℕ) (before after : List ℕ) → take (filled + came) after ≡ take (filled + came) before → take came (drop filled after) ≡ take came (drop filled before)
stays-behind filled came before after stays =
    sym (drop-take filled came after) ∙ ap (drop filled) stays ∙ drop-take filled came before

-- what came behind what was filled was consumed, and stays
consumed-still : (a b : Option (List ℕ)) (before after : List ℕ) (filled came : ℕ) → take (filled + came) after ≡ take (filled + came) before → Consumes a b (take came (drop filled before)) → Consumes a b (take came (drop filled after))
consumed-still a b before after filled came stays consumed =
    subst (Consumes a b) (sym (stays-behind filled came before after stays)) consumed

-- what is read behind that is consumed, too
consumed-more : (a b c : Option (List ℕ)) (before after : List ℕ) (filled came count : ℕ) → take (filled + came) after ≡ take (filled + came) before → Consumes a b (take came (drop filled before)) → Consumes b c (take count (drop (filled + came) after)) → Consumes a c (take (came + count) (drop filled after))
consumed-more a b c before after filled came count stays consumed read =
    subst (Consumes a c)
    (ap (λ l. take came (drop filled after) ++ take count l) (sym (drop-drop came filled after)) ∙ sym (take-add came count (drop filled after)))
    (Consumes-trans a b c (take came (drop filled after)) (take count (drop (filled + came) after)) (consumed-still a b before after filled came stays consumed) read)

-- bytes that were written over a whole vector are all of it
written_over : (len : ℕ) (bytes rest : List ℕ) → len ≡ length bytes → take len (bytes ++ rest) ≡ bytes
written_over len bytes rest is = ap (λ (n : ℕ). take n (bytes ++ rest)) is ∙ take-append_seam bytes rest

module _ (len filled came : ℕ) (before made value bytes rest : List ℕ) (all : len ≡ length bytes) (front : take (filled + came) bytes ≡ take (filled + came) value) (is : value ≡ made) (room : take (filled + came) made ≡ take (filled + came) before) where
  -- what was there before stays in a vector over which bytes were read
  still : take (filled + came) bytes ≡ take (filled + came) before
  still = front ∙ ap (take (filled + came)) is ∙ room

  -- so does what was filled
  pub filled-still : take filled (take len (bytes ++ rest)) ≡ take filled before
  filled-still = ap (take filled) (written_over len bytes rest all) ∙ stays-front filled came before bytes still

  -- and what came before and by that read was consumed
  pub consumed-on : (a b c : Option (List ℕ)) (count : ℕ) → Consumes a b (take came (drop filled before)) → Consumes b c (take count (drop (filled + came) bytes)) → Consumes a c (take (came + count) (drop filled (take len (bytes ++ rest))))
  consumed-on a b c count consumed read =
      subst (λ (l : List ℕ). Consumes a c (take (came + count) (drop filled l))) (sym (written_over len bytes rest all))
      (consumed-more a b c before bytes filled came count still consumed read)
