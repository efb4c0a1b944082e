-- Pieces that are appended one after the other are appended as one.
use Rattle.std.proofs.Common.{◌≡◌, ℕ, List, ◌++◌, Result, Ok, Err, OnErr, OnOk, ap, sym, ◌∙◌, append_assoc}
use mathlib.Core.List.{IsPrefix}
use Rattle.std.specs.declared.alloc.AllocError.{AllocError}

-- two pieces, of which the second may fail
pub two_pieces : {X : Type 0} (r : Result X AllocError) (before middle after one other both : List ℕ) → middle ≡ before ++ one → OnOk r (after ≡ middle ++ other) → one ++ other ≡ both → OnOk r (after ≡ before ++ both)
two_pieces (Ok x) before middle after one other both first second whole =
    second ∙ ap (λ l. l ++ other) first ∙ append_assoc before one other ∙ ap (λ l. before ++ l) whole
two_pieces (Err e) before middle after one other both first second whole = tt

-- three
pub three_pieces : {X : Type 0} (r : Result X AllocError) (before first second after one two three all : List ℕ) → first ≡ before ++ one → second ≡ first ++ two → OnOk r (after ≡ second ++ three) → (one ++ two) ++ three ≡ all → OnOk r (after ≡ before ++ all)
three_pieces r before first second after one two three all a b c whole =
    two_pieces r before second after (one ++ two) three all (b ∙ ap (λ l. l ++ two) a ∙ append_assoc before one two) c whole

-- four
pub four_pieces : {X : Type 0} (r : Result X AllocError) (before first second third after one two three four all : List ℕ) → first ≡ before ++ one → second ≡ first ++ two → third ≡ second ++ three → OnOk r (after ≡ third ++ four) → ((one ++ two) ++ three) ++ four ≡ all → OnOk r (after ≡ before ++ all)
four_pieces r before first second third after one two three four all a b c d whole =
    three_pieces r before second third after (one ++ two) three four all (b ∙ ap (λ l. l ++ two) a ∙ append_assoc before one two) c d whole

-- what holds anyway holds of an error
pub of_error : {X E : Type 0} (r : Result X E) (P : Type 0) → P → OnErr r P
of_error (Ok x) P p = tt
of_error (Err e) P p = p

-- what begins with a text that went on begins with the text
pub begins_before : {A : Type 0} (old mid new text : List A) → mid ≡ old ++ text → IsPrefix mid new → IsPrefix old new
begins_before old mid new text more p = (text ++ p.0, sym (append_assoc old text p.0) ∙ ap (λ l. l ++ p.0) (sym more) ∙ p.1)

-- two pieces for which there was room are one
pub both_pieces : (before mid after a b whole : List ℕ) → mid ≡ before ++ a → after ≡ mid ++ b → a ++ b ≡ whole → after ≡ before ++ whole
both_pieces before mid after a b whole first second is = second ∙ ap (λ x. x ++ b) first ∙ append_assoc before a b ∙ ap (λ x. before ++ x) is
