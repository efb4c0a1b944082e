-- Words at the front of bytes.
use Rattle.std.proofs.Common.{◌≡◌, ◌≢◌, ℕ, List, [], ◌∷◌, ◌++◌, Option, Some, None, MatchOption, inl, inr, refl, eqb, Bor}
use Rattle.std.proofs.lemmas.Bool.{cases_Bool, eqb-true, eq-eqb}
use Rattle.dine_words.specs.Reading.{Finds, word_at}

-- a word that stands at the front is found
pub word_at-append : (word rest : List ℕ) → word_at word (word ++ rest) ≡ Some rest
word_at-append [] rest = refl
word_at-append (w ∷ ws) rest = rw (eq-eqb w w refl) (word_at-append ws rest)

-- and no other
pub word_at-Some : (word bytes rest : List ℕ) → word_at word bytes ≡ Some rest → bytes ≡ word ++ rest
word_at-Some [] bytes rest h = cc
word_at-Some (w ∷ ws) [] rest h = absurd (let k : None ≡ Some rest = h in cc)
word_at-Some (w ∷ ws) (b ∷ bs) rest h = elim (cases_Bool (eqb w b)) [
  | inl e ↦ let same : w ≡ b = eqb-true w b e in let more : bs ≡ ws ++ rest = word_at-Some ws bs rest (rw e at h) in cc
  | inr e ↦ absurd (let k : None ≡ Some rest = rw e at h in cc)
]

-- a word that a text doesn't begin with isn't found there
found : (word bytes : List ℕ) (o : Option (List ℕ)) → word_at word bytes ≡ o → ((rest : List ℕ) → bytes ≢ word ++ rest) → o ≡ None
found word bytes None e h = refl
found word bytes (Some rest) e h = absurd (h rest (word_at-Some word bytes rest e))

-- what a test of the front says
pub word_at-test : (word bytes : List ℕ) (r : Option (Bor (List ℕ))) → MatchOption r ((rest : List ℕ) → bytes ≢ word ++ rest) (λ x. bytes ≡ word ++ x.now) → Finds (λ rest. rest.now) r (word_at word bytes)
word_at-test word bytes None h = found word bytes (word_at word bytes) refl h
word_at-test word bytes (Some x) h = rw h (word_at-append word x.now)
