-- A script whose front is carried out while it is read.
use Rattle.std.proofs.Common.{◌≡◌, ℕ, ◌+◌, ◌-◌, ◌<◌, append-nil, append_assoc, nat_lt, true, false, if◌then◌else◌, List, [], ◌++◌, Option, Some, None, IfSome, Result, Ok, Err, IfOk, OnErr, OnOk, inl, inr, refl, sym, ap, ◌∙◌, subst, arith}
use Rattle.std.proofs.lemmas.Bool.{cases_Bool}
use Rattle.std.specs.Prelude.{IsErrAnd}
use Rattle.std.proofs.lemmas.Grind.{flat_map-append}
use Rattle.dine_words.specs.declared.limits.Limits.{Limits}
use Rattle.dine_lines.specs.declared.print.Print.{Print}
use Rattle.dine_streams.specs.Inputs.{HeardInput, HearsMore}
use Rattle.dine_lines.specs.Lines.{lines_of}
use Rattle.dine_words.specs.Texts.{text_of_lines}
use Rattle.dine_streams.proofs.CallerLemmas.{Progress, all-heard, begun, gathered, heard-none, heard-on, heard-same}
use Rattle.dine_script.specs.Printed.{IsFrontPrinted, IsFrontRun, PrintsFront, TakesFront, TakesLines, opening_lines, printed_from}
use Rattle.dine_script.specs.Script.{Session, faults_from, opening, output_lines, script_end, script_output}
use Rattle.dine_streams.specs.declared.ended.CliFault.{CliFault}
use Rattle.dine_streams.specs.Ending.{end_of}
use Rattle.dine_script.proofs.PrintedLines.{lines-printed, text-printed}
use Rattle.dine_script.proofs.Steps.{some_faults}
use Rattle.dine_script.proofs.Fronts.{front-longer, front-none, front-on, prints-longer, prints-on}

-- so much is left to be read: bytes that may still come, and then the end
abbrev pub left_to_read : HeardInput → ℕ
left_to_read input = 16777216 - input.heard + (if input.is_at_end then 0 else 1)

-- each read leaves less
pub reads-less : {before after : Option (List ℕ)} (old mid new : HeardInput) → HearsMore old mid before after 65536 → old.is_at_end ≡ false → new.heard ≡ mid.heard → new.is_at_end ≡ mid.is_at_end → left_to_read new < left_to_read old
reads-less old mid new more open_yet same_heard same_end = elim (cases_Bool mid.is_at_end) [
  | inl e ↦ let end : new.is_at_end ≡ true = same_end ∙ e in let most = more.most in let heard = more.heard in
      rw (end, open_yet) (omega (arith, heard, same_heard))
  | inr e ↦ let end : new.is_at_end ≡ false = same_end ∙ e in let most = more.most in let heard = more.heard in let some = more.some e in
      rw (end, open_yet) (omega (arith, heard, same_heard, some, most))
]

-- nothing was carried out at first
pub run-none : (print : Print) (s : Session) (first : Option (List ℕ)) (input : HeardInput) (before : List ℕ) → input ≡ record { text = []; heard = 0; is_at_end = false } → IsFrontRun print s s first first input before before 0
run-none print s first input before is = record {
  bytes = [];
  so_far = heard-none first input is;
  takes = subst (λ l. TakesFront print s s [] l before before 0) (ap (λ (i : HeardInput). i.text) (sym is)) (front-none print s [] before);
}

module _ (print : Print) (s t u : Session) (first now next : Option (List ℕ)) (old mid new : HeardInput) (before held after : List ℕ) (faults one enough : ℕ) (same_heard : new.heard ≡ mid.heard) (same_end : new.is_at_end ≡ mid.is_at_end) where
  -- and more was heard, and carried out
  pub run-on : IsFrontRun print s t first now old before held faults → HearsMore old mid now next enough → TakesFront print t u mid.text new.text held after one → IsFrontRun print s u first next new before after (faults + one)
  run-on ran more takes = record {
    bytes = ran.bytes ++ more.bytes;
    so_far = heard-same (ran.bytes ++ more.bytes) first next mid new (heard-on ran.bytes first now next old mid enough ran.so_far more) same_heard same_end;
    takes =
        front-on print s t u (ran.bytes ++ more.bytes) (old.text ++ more.bytes) new.text before held after faults one
        (front-longer print s t ran.bytes old.text before held faults more.bytes ran.takes)
        (subst (λ l. TakesFront print t u l new.text held after one) more.text takes);
  }

-- and more was heard, and carried out up to a line for which there was no memory
pub printed-on : (print : Print) (s t : Session) (first now next : Option (List ℕ)) (old mid new : HeardInput) (before held after : List ℕ) (faults enough : ℕ) → new.heard ≡ mid.heard → new.is_at_end ≡ mid.is_at_end → IsFrontRun print s t first now old before held faults → HearsMore old mid now next enough → PrintsFront print t mid.text held after → IsFrontPrinted print s first next new before after
printed-on print s t first now next old mid new before held after faults enough same_heard same_end ran more prints = record {
  bytes = ran.bytes ++ more.bytes;
  so_far = heard-same (ran.bytes ++ more.bytes) first next mid new (heard-on ran.bytes first now next old mid enough ran.so_far more) same_heard same_end;
  prints =
      prints-on print s t (ran.bytes ++ more.bytes) (old.text ++ more.bytes) before held after faults
      (front-longer print s t ran.bytes old.text before held faults more.bytes ran.takes)
      (subst (λ l. PrintsFront print t l held after) more.text prints);
}

-- and all of the others came
module _ (first now next : Option (List ℕ)) (old new : HeardInput) (enough : ℕ) (more : HearsMore old new now next enough) (all : 16777216 < enough) where
  -- so the end has
  at-end : new.is_at_end ≡ true
  at-end = elim (cases_Bool new.is_at_end) [
    | inl e ↦ e
    | inr e ↦ absurd (let some = more.some e in let most = more.most in let heard = more.heard in omega (arith, some, most, heard, all))
  ]

  -- what was carried out is the front of the whole
  pub front-of-all : (print : Print) (s t : Session) (before after : List ℕ) (faults : ℕ) → IsFrontRun print s t first now old before after faults → IfSome first (λ text. TakesFront print s t text new.text before after faults)
  front-of-all print s t before after faults ran =
      all-heard (ran.bytes ++ more.bytes) first next new (λ text. TakesFront print s t text new.text before after faults) (heard-on ran.bytes first now next old new enough ran.so_far more) at-end
      (subst (λ l. TakesFront print s t (ran.bytes ++ more.bytes) l before after faults) (sym more.text) (front-longer print s t ran.bytes old.text before after faults more.bytes ran.takes))

  -- and so is what was printed of it
  pub printed-of-all : (print : Print) (s : Session) (before after : List ℕ) → IsFrontPrinted print s first now old before after → IfSome first (λ text. PrintsFront print s text before after)
  printed-of-all print s before after printed =
      all-heard (printed.bytes ++ more.bytes) first next new (λ text. PrintsFront print s text before after) (heard-on printed.bytes first now next old new enough printed.so_far more) at-end
      (prints-longer print s printed.bytes more.bytes before after printed.prints)

-- whether it went well or not
pub if_ok : {A E : Type 0} (r : Result A E) (P Q : A → Type 0) → ((a : A) → P a → Q a) → IfOk r P → IfOk r Q
if_ok (Ok a) P Q on p = on a p
if_ok (Err error) P Q on p = tt

pub if_err : {A E : Type 0} (r : Result A E) (P Q : Type 0) → (P → Q) → OnErr r P → OnErr r Q
if_err (Ok a) P Q on p = tt
if_err (Err error) P Q on p = on p

-- what is so where it went well, or where it didn't
pub ok-of : {A E : Type 0} (r : Result A E) (a : A) (P : A → Type 0) → r ≡ Ok a → IfOk r P → P a
ok-of r a P is = subst (λ q. IfOk q P) is

pub err-of : {A E : Type 0} (r : Result A E) (error : E) (P : Type 0) → r ≡ Err error → OnErr r P → P
err-of r error P is = subst (λ q. OnErr q P) is

-- ---- the rest of a script, behind what is pending

module _ {pending : List ℕ} (print : Print) (s t : Session) (text rest pending' : List ℕ) (faults : ℕ) (lines : TakesLines print s t text rest pending pending' faults) where
  -- what is printed of the lines that were carried out is pending, too
  pub rest-pending : {all : List (List ℕ)} {before held : Option (List ℕ)} → Progress all before held pending (printed_from print s (lines_of text)) → Progress all before held pending' (printed_from print t (lines_of rest))
  rest-pending p =
      gathered lines.takes.done (printed_from print t (lines_of rest)) pending'
      (ap (printed_from print s) (sym (append-nil (lines_of text))) ∙ lines.takes.printed [] ∙ ap (λ l. lines.takes.done ++ printed_from print t l) (append-nil (lines_of rest)))
      lines.takes.output p

  -- and their faults are counted
  pub rest-counted : faults_from s (lines_of text) ≡ faults + faults_from t (lines_of rest)
  rest-counted = ap (faults_from s) (sym (append-nil (lines_of text))) ∙ lines.takes.counted [] ∙ ap (λ l. faults + faults_from t l) (append-nil (lines_of rest))

-- what is pending at first comes first
pub rest-begun : (front rest : List (List ℕ)) (before : Option (List ℕ)) (pending : List ℕ) → pending ≡ text_of_lines front → Progress (front ++ rest) before before pending rest
rest-begun front rest before pending is = gathered front rest pending refl is (begun (front ++ rest) before)

-- ---- a whole script

-- what holds of a text that is known
pub if_known : (known : Option (List ℕ)) (P Q : List ℕ → Type 0) → ((text : List ℕ) → P text → Q text) → IfSome known P → IfSome known Q
if_known None P Q on p = tt
if_known (Some text) P Q on p = on text p

-- an error isn't said to be well
pub err_ends : {A : Type 0} (Q : CliFault → Type 0) (r : Result A CliFault) (P : Type 0) → IsErrAnd r Q → OnOk r P
err_ends Q (Ok x) P is = absurd is
err_ends Q (Err fault) P is = tt

module _ (print : Print) (limits : Limits) (s t : Session) (text left pending held : List ℕ) (faults : ℕ) (first : s ≡ opening limits) (begun_with : pending ≡ text_of_lines (opening_lines print limits)) (front : TakesFront print s t text left pending held faults) where
  -- the lines that are pending
  lines-held : List (List ℕ)
  lines-held = opening_lines print limits ++ front.done

  -- are these
  held-is : held ≡ text_of_lines lines-held
  unfolding lines-held
  held-is = front.output ∙ ap (λ l. l ++ text_of_lines front.done) begun_with ∙ sym (flat_map-append _ (opening_lines print limits) front.done)

  -- with those of the text that is left they are all lines of the script
  lines-all : lines-held ++ printed_from print t (lines_of left) ≡ output_lines print limits text
  unfolding lines-held
  lines-all =
      append_assoc (opening_lines print limits) front.done (printed_from print t (lines_of left))
      ∙ ap (λ l. opening_lines print limits ++ l)
      (ap (λ l. front.done ++ printed_from print t (lines_of l)) (sym (append-nil left)) ∙ sym (front.printed []) ∙ ap (λ l. printed_from print s (lines_of l)) (append-nil text) ∙ ap (λ (at : Session). printed_from print at (lines_of text)) first)
      ∙ lines-printed print limits text

  -- and their text is its output
  text-all : text_of_lines (lines-held ++ printed_from print t (lines_of left)) ≡ script_output print limits text
  text-all = ap text_of_lines lines-all ∙ text-printed print limits text

  -- so many lines of it have a fault
  faults-all : (rest : ℕ) → rest ≡ faults_from t (lines_of left) → faults + rest ≡ faults_from (opening limits) (lines_of text)
  faults-all rest is =
      ap (λ n. faults + n) is
      ∙ ap (λ l. faults + faults_from t (lines_of l)) (sym (append-nil left)) ∙ sym (front.counted []) ∙ ap (λ l. faults_from s (lines_of l)) (append-nil text) ∙ ap (λ (at : Session). faults_from at (lines_of text)) first

  -- so it ends as it is to
  ends-so : (rest : ℕ) → rest ≡ faults_from t (lines_of left) → end_of (nat_lt 0 (faults + rest)) ≡ script_end limits text
  ends-so rest is = ap (λ n. end_of (nat_lt 0 n)) (faults-all rest is) ∙ ap end_of (some_faults (opening limits) (lines_of text))

-- whatever may be known of the text
module _ (print : Print) (limits : Limits) (s t : Session) (left input pending held : List ℕ) (faults : ℕ) (known : Option (List ℕ)) (first : s ≡ opening limits) (begun_with : pending ≡ text_of_lines (opening_lines print limits)) (same : left ≡ input) (ran : IfSome known (λ text. TakesFront print s t text input pending held faults)) where
  -- it was carried out up to this rest
  ran-to : IfSome known (λ text. TakesFront print s t text left pending held faults)
  ran-to = if_known known _ _ (λ text front. subst (λ l. TakesFront print s t text l pending held faults) (sym same) front) ran

  -- what is so of the lines that are pending and those of the rest is so of all lines
  pub known-lines : (P : List (List ℕ) → Type 0) → ((front : List (List ℕ)) → held ≡ text_of_lines front → P (front ++ printed_from print t (lines_of left))) → IfSome known (λ text. P (output_lines print limits text))
  known-lines P so = if_known known _ _ (λ text front. subst P (lines-all print limits s t text left pending held faults first begun_with front) (so _ (held-is print limits s t text left pending held faults first begun_with front))) ran-to

  -- and of their text
  pub known-text : (P : List ℕ → Type 0) → ((front : List (List ℕ)) → held ≡ text_of_lines front → P (text_of_lines (front ++ printed_from print t (lines_of left)))) → IfSome known (λ text. P (script_output print limits text))
  known-text P so = if_known known _ _ (λ text front. subst P (text-all print limits s t text left pending held faults first begun_with front) (so _ (held-is print limits s t text left pending held faults first begun_with front))) ran-to

  -- so it ends as it is to
  pub known-end : (rest : ℕ) → rest ≡ faults_from t (lines_of left) → IfSome known (λ text. end_of (nat_lt 0 (faults + rest)) ≡ script_end limits text)
  known-end rest is = if_known known _ _ (λ text front. ends-so print limits s t text left pending held faults first begun_with front rest is) ran-to

-- and where there was no memory for a line
module _ (print : Print) (limits : Limits) (s : Session) (pending held : List ℕ) (known : Option (List ℕ)) (first : s ≡ opening limits) (begun_with : pending ≡ text_of_lines (opening_lines print limits)) (printed : IfSome known (λ text. PrintsFront print s text pending held)) where
  -- those that are pending are the first of all lines
  pub known-printed : (P : List (List ℕ) → Type 0) → ((front others : List (List ℕ)) → held ≡ text_of_lines front → P (front ++ others)) → IfSome known (λ text. P (output_lines print limits text))
  known-printed P so =
      if_known known _ _
      (λ text prints.
      let front : List (List ℕ) = opening_lines print limits ++ prints.done in
      let is : held ≡ text_of_lines front = prints.output ∙ ap (λ l. l ++ text_of_lines prints.done) begun_with ∙ sym (flat_map-append _ (opening_lines print limits) prints.done) in
      let all : front ++ prints.others [] ≡ output_lines print limits text =
      append_assoc (opening_lines print limits) prints.done (prints.others [])
      ∙ ap (λ l. opening_lines print limits ++ l)
      (sym (prints.printed []) ∙ ap (λ l. printed_from print s (lines_of l)) (append-nil text) ∙ ap (λ (at : Session). printed_from print at (lines_of text)) first)
      ∙ lines-printed print limits text in
      subst P all (so front (prints.others []) is))
      printed

  -- and their text is the first of the output
  pub known-printed-text : (P : List ℕ → Type 0) → ((front others : List (List ℕ)) → held ≡ text_of_lines front → P (text_of_lines (front ++ others))) → IfSome known (λ text. P (script_output print limits text))
  known-printed-text P so = if_known known _ _ (λ text. subst P (text-printed print limits text)) (known-printed (λ l. P (text_of_lines l)) so)
