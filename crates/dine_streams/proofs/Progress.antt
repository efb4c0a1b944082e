-- How far the lines of an output are written.
use Rattle.std.proofs.Common.{◌≡◌, ℕ, ◌+◌, min, List, [], ◌++◌, length, take, Option, inl, inr, refl, sym, ap, ◌∙◌, subst, append_assoc, append-nil, arith}
use Rattle.std.proofs.Math.Seq.{take-append-add, take-append_seam}
use Rattle.std.proofs.lemmas.List.{take-append-le, take_min}
use Rattle.std.proofs.lemmas.Grind.{flat_map-append}
use Rattle.std.proofs.KnownBytes.{Appends-kept, Appends-trans, Appends-nil}
use Rattle.std.specs.Io.KnownBytes.{Appends}
use Rattle.dine_streams.specs.Gathered.{MovesOn}
use Rattle.dine_streams.specs.Written.{AppendsLinesOf, AppendsPartOf}
use Rattle.dine_words.specs.Texts.{text_of_lines}

-- Of all the lines, those of `written` are written, those of `done` are written or pending, and `rest` is yet to come
pub record Progress (all : List (List ℕ)) (before now : Option (List ℕ)) (pending : List ℕ) (rest : List (List ℕ)) : Type 0 where
  pub written : List (List ℕ)
  pub left : List (List ℕ)
  pub done : List (List ℕ)
  pub cut : written ++ left ≡ all
  pub split : done ++ rest ≡ all
  pub text : text_of_lines written ++ pending ≡ text_of_lines done
  pub appended : Appends before now (text_of_lines written)

-- nothing is written at first
pub begun : (all : List (List ℕ)) (before : Option (List ℕ)) → Progress all before before [] all
begun all before = record {
  written = [];
  left = all;
  done = [];
  cut = refl;
  split = refl;
  text = refl;
  appended = Appends-nil before;
}

module _ {all : List (List ℕ)} {before now : Option (List ℕ)} {pending : List ℕ} {rest : List (List ℕ)} where
  -- the lines at the front of the rest are pending
  pub gathered : (lines rest' : List (List ℕ)) (pending' : List ℕ) → rest ≡ lines ++ rest' → pending' ≡ pending ++ text_of_lines lines → Progress all before now pending rest → Progress all before now pending' rest'
  gathered lines rest' pending' is more p = record {
    written = p.written;
    left = p.left;
    done = p.done ++ lines;
    cut = p.cut;
    split = append_assoc p.done lines rest' ∙ ap (λ l. p.done ++ l) (sym is) ∙ p.split;
    text = ap (λ l. text_of_lines p.written ++ l) more ∙ sym (append_assoc (text_of_lines p.written) pending (text_of_lines lines)) ∙ ap (λ l. l ++ text_of_lines lines) p.text ∙ sym (flat_map-append _ p.done lines);
    appended = p.appended;
  }

  -- what was pending is written
  pub flushed : (new : Option (List ℕ)) → Appends now new pending → Progress all before now pending rest → Progress all before new [] rest
  flushed new wrote p = record {
    written = p.done;
    left = rest;
    done = p.done;
    cut = p.split;
    split = p.split;
    text = append-nil (text_of_lines p.done);
    appended = subst (Appends before new) p.text (Appends-trans before now new _ _ p.appended wrote);
  }

  -- what was pending is written, or it is pending still
  pub moved : (new : Option (List ℕ)) (after : List ℕ) → MovesOn now new pending after → Progress all before now pending rest → Progress all before new after rest
  moved new after (inl wrote) p = subst (λ l. Progress all before new l rest) (sym wrote.1) (flushed new wrote.0 p)
  moved new after (inr kept) p = record {
    written = p.written;
    left = p.left;
    done = p.done;
    cut = p.cut;
    split = p.split;
    text = ap (λ l. text_of_lines p.written ++ l) kept.1 ∙ p.text;
    appended = Appends-kept before now new _ p.appended kept.0;
  }

  -- what is written is whole lines
  pub whole : Progress all before now pending rest → AppendsLinesOf before now all
  whole p =
      let first : take (length p.written) all ≡ p.written = ap (take (length p.written)) (sym p.cut) ∙ take-append_seam p.written p.left in
      (length p.written, subst (λ lines. Appends before now (text_of_lines lines)) (sym first) p.appended)

  -- a part of what was pending is written
  pub partly : (new : Option (List ℕ)) → AppendsPartOf now new pending → Progress all before now pending rest → AppendsPartOf before new (text_of_lines all)
  partly new (k, wrote) p =
      let text = text_of_lines p.written in
      let more = text_of_lines rest in
      let few = min k (length pending) in
      let whole : text_of_lines all ≡ text ++ (pending ++ more) =
      ap text_of_lines (sym p.split) ∙ flat_map-append _ p.done rest ∙ ap (λ l. l ++ more) (sym p.text) ∙ append_assoc text pending more in
      let part : take (length text + few) (text_of_lines all) ≡ text ++ take k pending =
      ap (take (length text + few)) whole ∙ take-append-add text (pending ++ more) few ∙ ap (λ l. text ++ l) (take-append-le few pending more (omega arith) ∙ take_min k pending) in
      (length text + few, subst (Appends before new) (sym part) (Appends-trans before now new _ _ p.appended wrote))

  -- where no line is left, all are written
  pub finished : (new : Option (List ℕ)) → rest ≡ [] → Appends now new pending → Progress all before now pending rest → Appends before new (text_of_lines all)
  finished new none wrote p =
      let whole : p.done ≡ all = sym (append-nil p.done) ∙ ap (λ l. p.done ++ l) (sym none) ∙ p.split in
      subst (Appends before new) (p.text ∙ ap text_of_lines whole) (Appends-trans before now new _ _ p.appended wrote)
