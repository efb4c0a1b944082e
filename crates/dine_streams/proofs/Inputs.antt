-- An input that is read a piece at a time, from its first byte on.
use Rattle.std.proofs.Common.{◌≡◌, ℕ, ◌+◌, ◌-◌, ◌<◌, ◌≤◌, Bool, false, true, List, [], ◌++◌, length, Option, None, Some, IfSome, inl, inr, refl, sym, ap, ◌∙◌, subst, arith, length-append}
use Rattle.std.proofs.lemmas.Bool.{cases_Bool}
use Rattle.std.specs.Io.KnownBytes.{Consumes, IsAtEnd}
use Rattle.std.proofs.KnownBytes.{Consumes-trans, Consumes-whole}
use Rattle.dine_streams.specs.Inputs.{HeardInput, HearsMore, IsHeardSoFar, IsMarkedOrLong, IsMarkedOrPast, IsReadOut}

-- nothing came at first
pub heard-none : (first : Option (List ℕ)) (input : HeardInput) → input ≡ record { text = []; heard = 0; is_at_end = false } → IsHeardSoFar [] first first input
heard-none first input is = record {
  consumed = none first;
  counted = ap (λ (i : HeardInput). i.heard) (sym is);
  most = (let none : input.heard ≡ 0 = ap (λ (i : HeardInput). i.heard) is in omega (arith, none));
  at_end = λ end. absurd (let no : input.is_at_end ≡ false = ap (λ (i : HeardInput). i.is_at_end) is in cc);
}
  where
    none : (known : Option (List ℕ)) → Consumes known known []
    none None = tt
    none (Some bytes) = refl

module _ (bytes : List ℕ) (first now next : Option (List ℕ)) (old new : HeardInput) (enough : ℕ) (s : IsHeardSoFar bytes first now old) (more : HearsMore old new now next enough) where
  -- and more came
  pub heard-on : IsHeardSoFar (bytes ++ more.bytes) first next new
  heard-on = record {
    consumed = Consumes-trans first now next bytes more.bytes s.consumed more.consumed;
    counted = (let was = s.counted in let is = more.heard in omega (arith, was, is, length-append bytes more.bytes));
    most = more.most;
    at_end = λ end. elim (cases_Bool old.is_at_end) [
      | inl was ↦ subst IsAtEnd (sym (more.still was)) (s.at_end was)
      | inr not_yet ↦ more.at_end not_yet end
    ];
  }

-- it stays so, whatever is forgotten of it
pub heard-same : (bytes : List ℕ) (first now : Option (List ℕ)) (old new : HeardInput) → IsHeardSoFar bytes first now old → new.heard ≡ old.heard → new.is_at_end ≡ old.is_at_end → IsHeardSoFar bytes first now new
heard-same bytes first now old new s same_heard same_end = record {
  consumed = s.consumed;
  counted = s.counted ∙ sym same_heard;
  most = (let was = s.most in omega (arith, was, same_heard));
  at_end = λ end. s.at_end (sym same_end ∙ end);
}

-- where more is left than may come, the whole is longer than it may be
pub long-whole : (bytes : List ℕ) (first now : Option (List ℕ)) (input : HeardInput) (mark : Bool) → IsHeardSoFar bytes first now input → IsMarkedOrPast (16777216 - input.heard) mark now → IsMarkedOrLong mark first
long-whole bytes first now input mark s (inl is) = inl is
long-whole bytes first now input mark s (inr long) = inr (by first now s.consumed long)
  where
    by : (all left : Option (List ℕ)) → Consumes all left bytes → IfSome left (λ text. 16777216 - input.heard < length text) → IfSome all (λ text. 16777216 < length text)
    by None left consumed past = tt
    by (Some all) None consumed past = absurd consumed
    by (Some all) (Some left) consumed past =
        let is : length all ≡ length (bytes ++ left) = ap length consumed in let counted = s.counted in
        omega (arith, counted, is, past, length-append bytes left)

-- what came so far is the whole, once the end has come
pub all-heard : (bytes : List ℕ) (first now : Option (List ℕ)) (input : HeardInput) (P : List ℕ → Type 0) → IsHeardSoFar bytes first now input → input.is_at_end ≡ true → P bytes → IfSome first P
all-heard bytes first now input P s end p = Consumes-whole first now bytes P s.consumed (s.at_end end) p

-- ---- an input that was read out

-- where these bytes came before the rest was read out, the whole was
pub out-later : (bytes : List ℕ) (first now new : Option (List ℕ)) (most left : ℕ) (old mark last : Bool) → Consumes first now bytes → length bytes + left ≤ most → mark ≡ old → IsReadOut left now new mark last → IsReadOut most first new old last
out-later bytes first now new most left old mark last consumed few same out = record {
  at_end = out.at_end;
  few = by first now consumed out.few;
  unmarked = out.unmarked ∙ same;
}
  where
    by : (all rest : Option (List ℕ)) → Consumes all rest bytes → IfSome rest (λ text. length text ≤ left) → IfSome all (λ text. length text ≤ most)
    by None rest came short = tt
    by (Some all) None came short = absurd came
    by (Some all) (Some rest) came short =
        let is : length all ≡ length (bytes ++ rest) = ap length came in
        omega (arith, few, is, short, length-append bytes rest)

-- so it was where memory was wanting behind what came so far
pub heard-out-later : (bytes : List ℕ) (first now new : Option (List ℕ)) (input : HeardInput) (old mark last : Bool) → IsHeardSoFar bytes first now input → mark ≡ old → IsReadOut (16777216 - input.heard) now new mark last → IsReadOut 16777216 first new old last
heard-out-later bytes first now new input old mark last s same out =
    out-later bytes first now new 16777216 (16777216 - input.heard) old mark last s.consumed (let counted = s.counted in let most = s.most in omega (arith, counted, most)) same out

-- and where the end has come
pub heard-out : (bytes : List ℕ) (first now : Option (List ℕ)) (input : HeardInput) (old last : Bool) → IsHeardSoFar bytes first now input → input.is_at_end ≡ true → last ≡ old → IsReadOut 16777216 first now old last
heard-out bytes first now input old last s end same = record {
  at_end = s.at_end end;
  few = all-heard bytes first now input (λ text. length text ≤ 16777216) s end (let counted = s.counted in let most = s.most in omega (arith, counted, most));
  unmarked = same;
}

-- which it has once more was asked for than an input may have
module _ (first now next : Option (List ℕ)) (old new : HeardInput) (enough : ℕ) (more : HearsMore old new now next enough) (all : 16777216 < enough) where
  pub ended-all : new.is_at_end ≡ true
  ended-all = elim (cases_Bool new.is_at_end) [
    | inl e ↦ e
    | inr e ↦ absurd (let some = more.some e in let most = more.most in let heard = more.heard in omega (arith, some, most, heard, all))
  ]

  pub out-all : (bytes : List ℕ) (was last : Bool) → IsHeardSoFar bytes first now old → last ≡ was → IsReadOut 16777216 first next was last
  out-all bytes was last s same = heard-out (bytes ++ more.bytes) first next new was last (heard-on bytes first now next old new enough s more) ended-all same
