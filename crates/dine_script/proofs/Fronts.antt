-- Lines at the front of a text that are carried out.
use Rattle.std.proofs.Common.{◌≡◌, ℕ, ◌==◌, ◌+◌, ◌-◌, ◌<◌, ◌≤◌, Bool, List, [], ◌∷◌, ◌++◌, length, drop, take, inl, inr, refl, sym, ap, ◌∙◌, subst, append_assoc, append-nil, arith, if◌then◌else◌, length-append, Result, Ok, Err, OnErr}
use Rattle.std.proofs.lemmas.Bool.{cases_Bool}
use Rattle.std.proofs.lemmas.List.{drop-append-le, drop-drop, length-take-le, take-append-drop}
use Rattle.std.proofs.lemmas.Grind.{flat_map-append}
use Rattle.dine_words.specs.Texts.{text_of_lines}
use Rattle.dine_lines.specs.declared.print.Print.{Print}
use Rattle.dine_lines.specs.Lines.{lines_of, onto_first}
use Rattle.dine_lines.proofs.CallerLemmas.{some_line}
use Rattle.dine_streams.specs.Lines.{begun_line}
use Rattle.dine_streams.proofs.CallerLemmas.{ended-left, ended-whatever}
use Rattle.dine_script.specs.Commands.{reading_of}
use Rattle.dine_script.specs.Printed.{PrintsFront, PrintsSome, TakesFirst, TakesFront, TakesLines, TakesSome, TakesUpTo, printed_from, printed_of}
use Rattle.dine_script.specs.Script.{Session, faults_from}
use Rattle.dine_script.proofs.Steps.{at_most_one, counted, printed_from-first, ticked}

-- ---- lines

-- nothing was carried out yet
pub takes-none : (print : Print) (s : Session) (lines : List (List ℕ)) (before : List ℕ) → TakesSome print s s lines lines before before 0
takes-none print s lines before = record {
  done = [];
  printed = λ more. refl;
  counted = λ more. omega arith;
  output = sym (append-nil before);
}

module _ (print : Print) (s t u : Session) (lines : List (List ℕ)) (text rest before now after : List ℕ) (faults one : ℕ) (fault : Bool) (is_one : one ≡ (if fault then 1 else 0)) where
  -- the next line was
  takes-next : TakesSome print s t lines (lines_of text) before now faults → TakesFirst print t u text rest now after fault → TakesSome print s u lines (lines_of rest) before after (faults + one)
  takes-next some first =
      let printed : List (List ℕ) = printed_of print t (reading_of t.names first.line) in
      record {
        done = some.done ++ printed;
        printed = λ more.
            some.printed more
            ∙ ap (λ l. some.done ++ l) (printed_from-first t u first.line (lines_of text ++ more) (lines_of rest ++ more) (ap (λ l. l ++ more) first.first) first.stands print)
            ∙ sym (append_assoc some.done printed (printed_from print u (lines_of rest ++ more)));
        counted = λ more.
            some.counted more
            ∙ sym (counted t u first.line (lines_of text ++ more) (lines_of rest ++ more) (ap (λ l. l ++ more) first.first) first.stands faults one fault is_one first.told);
        output =
            first.output
            ∙ ap (λ l. l ++ text_of_lines printed) some.output
            ∙ append_assoc before (text_of_lines some.done) (text_of_lines printed)
            ∙ ap (λ l. before ++ l) (sym (flat_map-append _ some.done printed));
      }

-- what is left of what is left
left-on : (text rest more : List ℕ) → rest ≡ drop (length text - length rest) text → length rest ≤ length text → more ≡ drop (length rest - length more) rest → length more ≤ length rest → more ≡ drop (length text - length more) text
left-on text rest more is short next shorter =
    next
    ∙ ap (drop (length rest - length more)) is
    ∙ drop-drop (length rest - length more) (length text - length rest) text
    ∙ ap (λ n. drop n text) (omega (arith, short, shorter))

-- the first line of a text was
pub takes-one : (print : Print) (s t : Session) (text rest before after : List ℕ) (fault : Bool) → TakesFirst print s t text rest before after fault → TakesLines print s t text rest before after (if fault then 1 else 0)
takes-one print s t text rest before after fault first =
    let shorter = first.shorter in
    let most = at_most_one fault refl in
    record {
      takes = subst (TakesSome print s t (lines_of text) (lines_of rest) before after) (omega arith) (takes-next print s s t (lines_of text) text rest before before after 0 (if fault then 1 else 0) fault refl (takes-none print s (lines_of text) before) first);
      left = first.left;
      short = omega (arith, shorter);
      some = λ _. shorter;
      few = omega (arith, most, shorter);
      clock = ticked s t first.line (lines_of text) (lines_of rest) first.first first.stands (length text) (length rest) (s.table.clock + length text) shorter (omega arith);
    }

-- what is left of a text is told by its length
pub takes-up-to : (print : Print) (s t : Session) (text rest before after : List ℕ) (faults : ℕ) → TakesLines print s t text rest before after faults → TakesUpTo print s t text (length rest) before after faults
takes-up-to print s t text rest before after faults lines = record {
  within = lines.short;
  taken = subst (λ left. TakesLines print s t text left before after faults) lines.left lines;
}

module _ (print : Print) (s t u : Session) (text now rest before held after : List ℕ) (faults one more : ℕ) (is_one : one ≡ more) (some : TakesSome print s t (lines_of text) (lines_of now) before held faults) (left : now ≡ drop (length text - length now) text) (short : length now ≤ length text) (few : faults + length now ≤ length text) (clock : t.table.clock + length now ≤ s.table.clock + length text) where
  -- and then lines at the front of what was left
  takes-on : TakesLines print t u now rest held after more → TakesSome print s u (lines_of text) (lines_of rest) before after (faults + one)
  takes-on lines =
      let next = lines.takes in
      record {
        done = some.done ++ next.done;
        printed = λ more.
            some.printed more
            ∙ ap (λ l. some.done ++ l) (next.printed more)
            ∙ sym (append_assoc some.done next.done (printed_from print u (lines_of rest ++ more)));
        counted = λ more. (let was = some.counted more in let is = next.counted more in omega (arith, is_one, was, is));
        output =
            next.output
            ∙ ap (λ l. l ++ text_of_lines next.done) some.output
            ∙ append_assoc before (text_of_lines some.done) (text_of_lines next.done)
            ∙ ap (λ l. before ++ l) (sym (flat_map-append _ some.done next.done));
      }

  -- lines more of a text were
  pub takes-more : 0 < length now → TakesLines print t u now rest held after more → TakesLines print s u text rest before after (faults + one)
  takes-more some_now lines =
      let shorter = lines.some some_now in
      let next_few = lines.few in
      let next_clock = lines.clock in
      record {
        takes = takes-on lines;
        left = left-on text now rest left short lines.left lines.short;
        short = omega (arith, shorter, short);
        some = λ _. omega (arith, shorter, short);
        few = omega (arith, is_one, next_few, few);
        clock = omega (arith, next_clock, clock);
      }

-- ---- whole lines

-- a byte in front of the first of some pieces
onto-first : (byte : ℕ) (pieces more : List (List ℕ)) → (pieces ≡ [] → ⊥) → onto_first byte (pieces ++ more) ≡ onto_first byte pieces ++ more
onto-first byte [] more some = absurd (some refl)
onto-first byte (piece ∷ pieces) more some = refl

-- the lines behind whole ones are those of the text there
pub lines-both : (text rest : List ℕ) → begun_line [] text ≡ [] → lines_of (text ++ rest) ≡ lines_of text ++ lines_of rest
lines-both [] rest whole = refl
lines-both (x ∷ []) rest whole = elim (cases_Bool (x == 10)) [
  | inl e ↦ rw e refl
  | inr e ↦ absurd (let no : x ∷ [] ≡ [] = rw e at whole in cc)
]
lines-both (x ∷ y ∷ text) rest whole = elim (cases_Bool (x == 10)) [
  | inl e ↦ rw e (ap (λ l. [] ∷ l) (lines-both (y ∷ text) rest (rw e at whole)))
  | inr e ↦ rw e (ap (onto_first x) (lines-both (y ∷ text) rest (ended-whatever (x ∷ []) [] (y ∷ text) (omega arith) (rw e at whole))) ∙ onto-first x (lines_of (y ∷ text)) (lines_of rest) (some_line (y ∷ text) (omega arith)))
]

module _ (print : Print) (s t : Session) (text rest before after : List ℕ) (faults : ℕ) where
  -- so were lines in front of whatever bytes
  pub front-of : TakesLines print s t text rest before after faults → begun_line [] text ≡ [] → (behind : List ℕ) → TakesFront print s t (text ++ behind) (rest ++ behind) before after faults
  front-of lines whole behind =
      let whole_rest : begun_line [] rest ≡ [] = ap (begun_line []) lines.left ∙ ended-left (length text - length rest) text whole in
      let apart : (xs more : List ℕ) → begun_line [] xs ≡ [] → lines_of ((xs ++ behind) ++ more) ≡ lines_of xs ++ lines_of (behind ++ more) = λ xs more is. ap lines_of (append_assoc xs behind more) ∙ lines-both xs (behind ++ more) is in
      let few = lines.few in
      let clock = lines.clock in
      record {
        done = lines.takes.done;
        printed = λ more.
            ap (printed_from print s) (apart text more whole)
            ∙ lines.takes.printed (lines_of (behind ++ more))
            ∙ ap (λ l. lines.takes.done ++ printed_from print t l) (sym (apart rest more whole_rest));
        counted = λ more.
            ap (faults_from s) (apart text more whole)
            ∙ lines.takes.counted (lines_of (behind ++ more))
            ∙ ap (λ l. faults + faults_from t l) (sym (apart rest more whole_rest));
        output = lines.takes.output;
        few = omega (arith, few, length-append text behind, length-append rest behind);
        clock = omega (arith, clock, length-append text behind, length-append rest behind);
      }

  -- bytes that come behind
  pub front-longer : (bytes : List ℕ) → TakesFront print s t text rest before after faults → TakesFront print s t (text ++ bytes) (rest ++ bytes) before after faults
  front-longer bytes front =
      let few = front.few in
      let clock = front.clock in
      record {
        done = front.done;
        printed = λ more.
            ap (λ l. printed_from print s (lines_of l)) (append_assoc text bytes more)
            ∙ front.printed (bytes ++ more)
            ∙ ap (λ l. front.done ++ printed_from print t (lines_of l)) (sym (append_assoc rest bytes more));
        counted = λ more.
            ap (λ l. faults_from s (lines_of l)) (append_assoc text bytes more)
            ∙ front.counted (bytes ++ more)
            ∙ ap (λ l. faults + faults_from t (lines_of l)) (sym (append_assoc rest bytes more));
        output = front.output;
        few = omega (arith, few, length-append text bytes, length-append rest bytes);
        clock = omega (arith, clock, length-append text bytes, length-append rest bytes);
      }

-- nothing was carried out yet
pub front-none : (print : Print) (s : Session) (text before : List ℕ) → TakesFront print s s text text before before 0
front-none print s text before = record {
  done = [];
  printed = λ more. refl;
  counted = λ more. omega arith;
  output = sym (append-nil before);
  few = omega arith;
  clock = omega arith;
}

module _ (print : Print) (s t u : Session) (text left rest before now after : List ℕ) (faults more_faults : ℕ) where
  -- and then those of what was left
  pub front-on : TakesFront print s t text left before now faults → TakesFront print t u left rest now after more_faults → TakesFront print s u text rest before after (faults + more_faults)
  front-on front next =
      let few = front.few in
      let next_few = next.few in
      let clock = front.clock in
      let next_clock = next.clock in
      record {
        done = front.done ++ next.done;
        printed = λ more.
            front.printed more
            ∙ ap (λ l. front.done ++ l) (next.printed more)
            ∙ sym (append_assoc front.done next.done (printed_from print u (lines_of (rest ++ more))));
        counted = λ more. (let was = front.counted more in let is = next.counted more in omega (arith, was, is));
        output =
            next.output
            ∙ ap (λ l. l ++ text_of_lines next.done) front.output
            ∙ append_assoc before (text_of_lines front.done) (text_of_lines next.done)
            ∙ ap (λ l. before ++ l) (sym (flat_map-append _ front.done next.done));
        few = omega (arith, few, next_few);
        clock = omega (arith, clock, next_clock);
      }

-- the whole lines at the front of a text were carried out up to what is left of them
pub front-heard : (print : Print) (s t : Session) (text now rest left before after : List ℕ) (whole faults : ℕ) → now ≡ text → whole ≤ length text → begun_line [] (take whole text) ≡ [] → left ≡ drop (whole - length rest) text → TakesLines print s t (take whole now) rest before after faults → TakesFront print s t text left before after faults
front-heard print s t text now rest left before after whole faults same within ended forgot taken =
    let lines : TakesLines print s t (take whole text) rest before after faults = subst (λ l. TakesLines print s t (take whole l) rest before after faults) same taken in
    let behind : List ℕ = drop whole text in
    let all : take whole text ++ behind ≡ text = take-append-drop whole text in
    let long : length (take whole text) ≡ whole = length-take-le whole text within in
    let is : rest ≡ drop (whole - length rest) (take whole text) = lines.left ∙ ap (λ n. drop (n - length rest) (take whole text)) long in
    let kept : rest ++ behind ≡ left =
    ap (λ l. l ++ behind) is
    ∙ sym (drop-append-le (whole - length rest) (take whole text) behind (omega (arith, long)))
    ∙ ap (drop (whole - length rest)) all
    ∙ sym forgot in
    subst (λ l. TakesFront print s t l left before after faults) all
    (subst (λ l. TakesFront print s t (take whole text ++ behind) l before after faults) kept
    (front-of print s t (take whole text) rest before after faults lines ended behind))

-- ---- lines up to one for which there was no memory

-- nothing was appended for that one
pub prints-some : (print : Print) (s t : Session) (lines rest : List (List ℕ)) (before held after : List ℕ) (faults : ℕ) → TakesSome print s t lines rest before held faults → after ≡ held → PrintsSome print s lines before after
prints-some print s t lines rest before held after faults some none = record {
  done = some.done;
  others = λ more. printed_from print t (rest ++ more);
  printed = some.printed;
  output = none ∙ some.output;
}

-- whole lines at the front of a text
pub prints-heard : (print : Print) (s : Session) (text now before after : List ℕ) (whole : ℕ) → now ≡ text → begun_line [] (take whole text) ≡ [] → PrintsSome print s (lines_of (take whole now)) before after → PrintsFront print s text before after
prints-heard print s text now before after whole same ended prints =
    let some : PrintsSome print s (lines_of (take whole text)) before after = subst (λ l. PrintsSome print s (lines_of (take whole l)) before after) same prints in
    let behind : List ℕ = drop whole text in
    record {
      done = some.done;
      others = λ more. some.others (lines_of (behind ++ more));
      printed = λ more.
          ap (λ l. printed_from print s (lines_of (l ++ more))) (sym (take-append-drop whole text))
          ∙ ap (λ l. printed_from print s (lines_of l)) (append_assoc (take whole text) behind more)
          ∙ ap (printed_from print s) (lines-both (take whole text) (behind ++ more) ended)
          ∙ some.printed (lines_of (behind ++ more));
      output = some.output;
    }

-- behind lines that were carried out
pub prints-on : (print : Print) (s t : Session) (text left before now after : List ℕ) (faults : ℕ) → TakesFront print s t text left before now faults → PrintsFront print t left now after → PrintsFront print s text before after
prints-on print s t text left before now after faults front next = record {
  done = front.done ++ next.done;
  others = next.others;
  printed = λ more.
      front.printed more
      ∙ ap (λ l. front.done ++ l) (next.printed more)
      ∙ sym (append_assoc front.done next.done (next.others more));
  output =
      next.output
      ∙ ap (λ l. l ++ text_of_lines next.done) front.output
      ∙ append_assoc before (text_of_lines front.done) (text_of_lines next.done)
      ∙ ap (λ l. before ++ l) (sym (flat_map-append _ front.done next.done));
}

-- bytes that come behind
pub prints-longer : (print : Print) (s : Session) (text bytes before after : List ℕ) → PrintsFront print s text before after → PrintsFront print s (text ++ bytes) before after
prints-longer print s text bytes before after prints = record {
  done = prints.done;
  others = λ more. prints.others (bytes ++ more);
  printed = λ more. ap (λ l. printed_from print s (lines_of l)) (append_assoc text bytes more) ∙ prints.printed (bytes ++ more);
  output = prints.output;
}

-- whatever the error is
pub on_err : {A E : Type 0} (r : Result A E) (P : Type 0) → P → OnErr r P
on_err (Ok a) P p = tt
on_err (Err error) P p = p
