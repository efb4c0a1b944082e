-- What of a journal was read, and what may still be.
use Rattle.std.proofs.Common.{◌≡◌, ◌≢◌, ℕ, ◌+◌, ◌-◌, ◌^◌, ◌<◌, ◌≤◌, Bool, false, true, List, [], ◌++◌, length, Option, Some, None, IfSome, Result, Ok, Err, OnErr, inl, inr, refl, sym, ap, subst, ◌∙◌, ◌⊎◌, arith, length-append}
use Rattle.std.specs.Io.KnownBytes.{Consumes, IsAtEnd}
use Rattle.std.specs.Prelude.{IsErrAnd}
use Rattle.std.proofs.KnownBytes.{Consumes-nil, Consumes-trans, Consumes-whole}
use Rattle.dine_replay.specs.declared.audit_answer.AuditFault.{AuditFault}
use Rattle.dine_replay.specs.declared.audit_answer.AuditFault.TheVariants.{Read, Memory}
use Rattle.dine_replay.specs.declared.audit_answer.Checked.{Checked}
use Rattle.dine_replay.specs.declared.bound.Bound.{Bound}
use Rattle.dine_replay.specs.Bounds.{IsMarkedOrPast, IsMarkedOrPastFrom, IsWithinBound, StaysWithinBound}
use Rattle.dine_replay.specs.Checking.{IsChecked}
use Rattle.dine_replay.specs.Marks.{HasRead, IsAnswered}
use Rattle.dine_replay.specs.Replaying.{IsMarkedOrEndless}
use Rattle.dine_streams.specs.Inputs.{IsMarkedOrLong, IsReadOut}

-- bytes came, as many as are not allowed any more
pub heard_within : (old new : Option (List ℕ)) (bytes : List ℕ) (before after : Bound) → Consumes old new bytes → length bytes + after.allowed ≡ before.allowed → (after.is_at_end ≡ true → IsAtEnd new) → StaysWithinBound old new before after
heard_within old new bytes before after consumed counted end = λ most first w. record {
  heard = w.heard ++ bytes;
  consumed = Consumes-trans first old new w.heard bytes w.consumed consumed;
  counted = (let was = w.counted in omega (arith, length-append w.heard bytes));
  few = w.few;
  end = end;
}

-- the whole has no end for a number of 64 bits, and there may be fewer
pub past_of : {most : ℕ} {bound : Bound} {now : Option (List ℕ)} (mark : Bool) (first : Option (List ℕ)) → IsWithinBound most first now bound → IfSome first (λ text. 2 ^ 64 - 2 ≤ length text) → IsMarkedOrPast most mark first
past_of mark None w endless = inr tt
past_of mark (Some text) w endless = inr (let few = w.few in omega arith)

-- what is left has no end for a number of 64 bits
pub endless_past : (mark : Bool) (old : Option (List ℕ)) (bound : Bound) → IfSome old (λ text. 2 ^ 64 - 2 ≤ length text) → IsMarkedOrPastFrom mark old bound
endless_past mark old bound endless = λ most first w. inr (by most first old w endless)
  where
    by : (most : ℕ) (first now : Option (List ℕ)) → IsWithinBound most first now bound → IfSome now (λ text. 2 ^ 64 - 2 ≤ length text) → IfSome first (λ text. most < length text)
    by most None now w long = tt
    by most (Some all) None w long = absurd w.consumed
    by most (Some all) (Some rest) w long =
        let is : length all ≡ length (w.heard ++ rest) = ap length w.consumed in let few = w.few in
        omega (arith, length-append w.heard rest)

-- what is so from later on is so from before on
pub past_later : (mark : Bool) (old now : Option (List ℕ)) (before bound : Bound) → StaysWithinBound old now before bound → IsMarkedOrPastFrom mark now bound → IsMarkedOrPastFrom mark old before
past_later mark old now before bound stays later = λ most first w. later most first (stays most first w)

-- and what was read before was read
pub stays_later : (old now new : Option (List ℕ)) (before bound after : Bound) → StaysWithinBound old now before bound → StaysWithinBound now new bound after → StaysWithinBound old new before after
stays_later old now new before bound after stays later = λ most first w. later most first (stays most first w)

-- nothing was heard from here on
from_here : (most : ℕ) (now : Option (List ℕ)) (bound : Bound) → bound.allowed ≡ most → most < 2 ^ 64 - 2 → (bound.is_at_end ≡ true → IsAtEnd now) → IsWithinBound most now now bound
from_here most now bound is few end = record { heard = []; consumed = none now; counted = omega arith; few = few; end = end }
  where
    none : (known : Option (List ℕ)) → Consumes known known []
    none None = tt
    none (Some bytes) = refl

-- nor was anything before
pub at_first : (most : ℕ) (first : Option (List ℕ)) (bound : Bound) → bound ≡ record { allowed = most; is_at_end = false } → most < 2 ^ 64 - 2 → IsWithinBound most first first bound
at_first most first bound is few = from_here most first bound (ap (λ (b : Bound). b.allowed) is) few (λ at_end. absurd (let no : bound.is_at_end ≡ false = ap (λ (b : Bound). b.is_at_end) is in cc))

-- what was heard before may be forgotten
pub within_here : {most : ℕ} {first now : Option (List ℕ)} {bound : Bound} → IsWithinBound most first now bound → IsWithinBound bound.allowed now now bound
within_here {most} {first} {now} {bound} w = from_here bound.allowed now bound refl (let few = w.few in let counted = w.counted in omega arith) w.end

-- more bytes than a number of 64 bits may count so have no end for it
pub to_endless : (mark : Bool) (first : Option (List ℕ)) → IsMarkedOrPast (2 ^ 64 - 3) mark first → IsMarkedOrEndless mark first
to_endless mark first (inl marked) = inl marked
to_endless mark None (inr long) = inr tt
to_endless mark (Some text) (inr long) = inr (omega arith)

-- nor may an input have so many
to_long : (mark : Bool) (first : Option (List ℕ)) → IsMarkedOrPast 16777216 mark first → IsMarkedOrLong mark first
to_long mark first (inl marked) = inl marked
to_long mark None (inr long) = inr tt
to_long mark (Some text) (inr long) = inr long

-- where there is more of what is left than may come, there is more of the whole
pub past_before : {most : ℕ} {bound : Bound} (mark : Bool) (first now : Option (List ℕ)) → IsWithinBound most first now bound → IsMarkedOrPast bound.allowed mark now → IsMarkedOrPast most mark first
past_before mark first now w (inl is) = inl is
past_before {most} {bound} mark first now w (inr long) = inr (by first now w long)
  where
    by : (first now : Option (List ℕ)) → IsWithinBound most first now bound → IfSome now (λ text. bound.allowed < length text) → IfSome first (λ text. most < length text)
    by None now w long = tt
    by (Some all) None w long = absurd w.consumed
    by (Some all) (Some rest) w long =
        let is : length all ≡ length (w.heard ++ rest) = ap length w.consumed in let counted = w.counted in
        omega (arith, length-append w.heard rest)

-- a read that failed tells nothing of the text
read_tells_none : (known : Option (List ℕ)) → IfSome known (λ text. IsChecked text (Err Read))
read_tells_none None = tt
read_tells_none (Some text) = tt

-- it is answered where nothing was read yet and may be no more than of an input
pub past_answered : (first : Option (List ℕ)) (old new : Bool) (bound : Bound) → bound ≡ record { allowed = 16777216; is_at_end = false } → IsMarkedOrPastFrom new first bound → IsAnswered IsChecked IsMarkedOrLong (Err Read) first old new
past_answered first old new bound is past = record {
  answer = read_tells_none first;
  mark = record {
    failed = λ _. to_long new first (past 16777216 first (at_first 16777216 first bound is (omega arith)));
    unmarked = tt;
    read_alone = λ other. absurd (other refl);
  };
}

-- a success is no fault of reading
pub ok_reads : {X : Type 0} (x : X) → ◌≢◌ {A = Result X AuditFault} (Ok x) (Err Read)
ok_reads {X} x is = let same : ◌≡◌ {A = Result X AuditFault} (Ok x) (Err Read) = is in cc

-- what holds is so in the face of an error
pub on_err : {X E : Type 0} (P : Type 0) (r : Result X E) → P → OnErr r P
on_err P (Ok x) p = tt
on_err P (Err e) p = p

-- ---- a journal that was read out

-- once the end has come none is left, and there were no more than there may be
pub read_to_end : {most : ℕ} {bound : Bound} (first now : Option (List ℕ)) → IsWithinBound most first now bound → IsAtEnd now → IsAtEnd now × IfSome first (λ bytes. length bytes ≤ most)
read_to_end {most} {bound} first now w end = (
  end,
  Consumes-whole first now w.heard (λ bytes. length bytes ≤ most) w.consumed end (let counted = w.counted in omega (arith, counted)),
)

-- so it was read out
pub read_out : (first now : Option (List ℕ)) (old new : Bool) → IsAtEnd now × IfSome first (λ bytes. length bytes ≤ 16777216) → new ≡ old → IsReadOut 16777216 first now old new
read_out first now old new both same = record { at_end = both.0; few = both.1; unmarked = same }

-- what was heard of it was read
pub has_read : {most : ℕ} {bound : Bound} (first now : Option (List ℕ)) → IsWithinBound most first now bound → HasRead first now
has_read first now w = (w.heard, w.consumed)

-- of a reader that wasn't used nothing was
pub has_read_none : (first : Option (List ℕ)) → HasRead first first
has_read_none first = ([], Consumes-nil first)

-- want of memory tells nothing of the text
memory_tells_none : (known : Option (List ℕ)) → IfSome known (λ text. IsChecked text (Err Memory))
memory_tells_none None = tt
memory_tells_none (Some text) = tt

-- what is answered where memory was wanting before the first read
pub before_reading : (first now : Option (List ℕ)) (old new : Bool) (fault : AuditFault) → (fault ≡ Read) ⊎ (fault ≡ Memory) → (fault ≡ Read → IsMarkedOrLong new first) → (fault ≡ Memory → IsReadOut 16777216 first now old new) → IsAnswered IsChecked IsMarkedOrLong (Err fault) first old new
before_reading first now old new fault (inl is) failed out =
    subst (λ (f : AuditFault). IsAnswered IsChecked IsMarkedOrLong (Err f) first old new) (sym is)
    record {
      answer = read_tells_none first;
      mark = record {
        failed = λ _. failed is;
        unmarked = tt;
        read_alone = λ other. absurd (other refl);
      };
    }
before_reading first now old new fault (inr is) failed out =
    subst (λ (f : AuditFault). IsAnswered IsChecked IsMarkedOrLong (Err f) first old new) (sym is)
    record {
      answer = memory_tells_none first;
      mark = record {
        failed = λ read. absurd (let same : ◌≡◌ {A = Result Checked AuditFault} (Err Memory) (Err Read) = read in cc);
        unmarked = tt;
        read_alone = λ _. (out is).unmarked;
      };
    }

-- a fault that isn't `Read` came once all was read
pub out_before_reading : (first now : Option (List ℕ)) (old new : Bool) (fault : AuditFault) → (fault ≡ Read) ⊎ (fault ≡ Memory) → (fault ≡ Memory → IsReadOut 16777216 first now old new) → ◌≢◌ {A = Result Checked AuditFault} (Err fault) (Err Read) → IsReadOut 16777216 first now old new
out_before_reading first now old new fault (inl is) out other = absurd (other (ap (λ (f : AuditFault). Err f) is))
out_before_reading first now old new fault (inr is) out other = out is

-- what is so unless a read failed is so where a fault is passed on
pub unless_read : {X Y : Type 0} (Out : Type 0) (r : Result Y AuditFault) (fault : AuditFault) → IsErrAnd r (λ f. f ≡ fault) → (◌≢◌ {A = Result X AuditFault} (Err fault) (Err Read) → Out) → r ≢ Err Read → Out
unless_read Out (Ok x) fault same out other = absurd same
unless_read {X} Out (Err found) fault same out other =
    out (λ is. let read : ◌≡◌ {A = Result X AuditFault} (Err fault) (Err Read) = is in let e : fault ≡ Read = cc in other (ap (λ (f : AuditFault). Err f) (same ∙ e)))
