-- How far a stream was heard and answered.
use Rattle.dine_serve.proofs.Words.{◌≡◌, ℕ, Bool, false, ◌||◌, List, [], ◌++◌, Option, IfSome, refl, sym, ap, ◌∙◌, subst, append-nil, flat_map-append, Appends-kept, Appends-nil, Appends-trans, Consumes-kept, Consumes-nil, Consumes-trans, Consumes-whole, Appends, Consumes, Keeps, LineBuffer, Hears, begun_line, seen_lines, HasHeard, heard-next, heard-opening, seen-next, Broker, has_fault_of, is_torn, said_from, said_of_begun, said_to_input, standing_from, AppendsLinesOf, AppendsPartOf, HasAnswered, text_of_lines}
use Rattle.dine_serve.proofs.Answering.{is_torn-kept, lines-all, lines-later, of_front, part-later, said_from-append, said_later, said_of_begun-kept, said_to_input-front, standing_from-append}

-- of the input this text was heard, it is answered, and it left the broker and the buffer so
pub record IsAnswered (s now : Broker) (buffer : LineBuffer) (input rest old new : Option (List ℕ)) : Type 0 where
  pub text : List ℕ
  pub consumed : Consumes input rest text
  pub heard : HasHeard buffer text
  pub left : now ≡ standing_from s (seen_lines [] text)
  pub written : Appends old new (text_of_lines (said_from s (seen_lines [] text)))

-- nothing was heard at first
pub answered-opening : (s : Broker) (buffer : LineBuffer) (input old : Option (List ℕ)) → buffer.begun ≡ [] → IsAnswered s s buffer input input old old
answered-opening s buffer input old none = record {
  text = [];
  consumed = Consumes-nil input;
  heard = heard-opening buffer none;
  left = refl;
  written = Appends-nil old;
}

module _ (s now : Broker) (buffer : LineBuffer) (input rest old new : Option (List ℕ)) (a : IsAnswered s now buffer input rest old new) where
  -- it is so where a read fails
  pub answered-failed : (rest' : Option (List ℕ)) → Keeps rest rest' → HasAnswered s [] input rest' old new
  answered-failed rest' kept = record {
    heard = a.text;
    consumed = Consumes-kept input rest rest' a.text a.consumed kept;
    written = a.written;
  }

  -- where no more is answered, whole lines are written
  pub answered-so_far : IfSome input (λ all. AppendsLinesOf old new (said_to_input s all))
  answered-so_far =
      of_front input rest a.text (λ all. AppendsLinesOf old new (said_to_input s all)) a.consumed (λ more.
      subst (AppendsLinesOf old new) (sym (said_to_input-front s a.text more)) (lines-all old new (said_from s (seen_lines [] a.text)) (said_later s a.text more) a.written))

  module _ (buffer' : LineBuffer) (rest' : Option (List ℕ)) (came : Bool) (hears : Hears buffer buffer' rest rest' came) where
    abbrev text' : List ℕ
    text' = a.text ++ hears.bytes

    consumed' : Consumes input rest' text'
    consumed' = Consumes-trans input rest rest' a.text hears.bytes a.consumed hears.consumed

    -- what is said to the text so far, and to the lines that were heard now
    said' : said_from s (seen_lines [] text') ≡ said_from s (seen_lines [] a.text) ++ said_from now (seen_lines [] buffer'.lines)
    said' =
        ap (said_from s) (seen-next buffer buffer' rest rest' came a.text a.heard hears)
        ∙ said_from-append s (seen_lines [] a.text) (seen_lines [] buffer'.lines)
        ∙ ap (λ t. said_from s (seen_lines [] a.text) ++ said_from t (seen_lines [] buffer'.lines)) (sym a.left)

    left' : standing_from s (seen_lines [] text') ≡ standing_from now (seen_lines [] buffer'.lines)
    left' =
        ap (standing_from s) (seen-next buffer buffer' rest rest' came a.text a.heard hears)
        ∙ standing_from-append s (seen_lines [] a.text) (seen_lines [] buffer'.lines)
        ∙ ap (λ t. standing_from t (seen_lines [] buffer'.lines)) (sym a.left)

    -- the lines that were heard now are answered
    pub answered-next : (now' : Broker) (new' : Option (List ℕ)) → now' ≡ standing_from now (seen_lines [] buffer'.lines) → Appends new new' (text_of_lines (said_from now (seen_lines [] buffer'.lines))) → IsAnswered s now' buffer' input rest' old new'
    answered-next now' new' left wrote = record {
      text = text';
      consumed = consumed';
      heard = heard-next buffer buffer' rest rest' came a.text a.heard hears;
      left = left ∙ sym left';
      written = subst (Appends old new') (sym (flat_map-append _ (said_from s (seen_lines [] a.text)) (said_from now (seen_lines [] buffer'.lines))) ∙ ap text_of_lines (sym said')) (Appends-trans old new new' _ _ a.written wrote);
    }

    -- all that is said to an input that begins so
    said_to_all : (more : List ℕ) → said_to_input s (text' ++ more) ≡ said_from s (seen_lines [] a.text) ++ said_from now (seen_lines [] buffer'.lines) ++ said_later s text' more
    said_to_all more = said_to_input-front s text' more ∙ ap (λ said. said ++ said_later s text' more) said'

    -- some whole lines of their answers are written
    pub answered-in_lines : (new' : Option (List ℕ)) → AppendsLinesOf new new' (said_from now (seen_lines [] buffer'.lines)) → IfSome input (λ all. AppendsLinesOf old new' (said_to_input s all))
    answered-in_lines new' wrote =
        of_front input rest' text' (λ all. AppendsLinesOf old new' (said_to_input s all)) consumed' (λ more.
        subst (AppendsLinesOf old new') (sym (said_to_all more)) (lines-later old new new' (said_from s (seen_lines [] a.text)) (said_from now (seen_lines [] buffer'.lines)) (said_later s text' more) a.written wrote))

    -- a part of their answers is written
    pub answered-in_part : (new' : Option (List ℕ)) → AppendsPartOf new new' (text_of_lines (said_from now (seen_lines [] buffer'.lines))) → IfSome input (λ all. AppendsPartOf old new' (text_of_lines (said_to_input s all)))
    answered-in_part new' wrote =
        of_front input rest' text' (λ all. AppendsPartOf old new' (text_of_lines (said_to_input s all))) consumed' (λ more.
        subst (λ lines. AppendsPartOf old new' (text_of_lines lines)) (sym (said_to_all more)) (part-later old new new' (said_from s (seen_lines [] a.text)) (said_from now (seen_lines [] buffer'.lines)) (said_later s text' more) a.written wrote))

    -- ---- the same, of the text that the buffer shows

    module _ (block : List ℕ) (shown : block ≡ buffer'.lines) where
      -- the lines that were heard now are answered
      pub block-next : (now' : Broker) (new' : Option (List ℕ)) → now' ≡ standing_from now (seen_lines [] block) → Appends new new' (text_of_lines (said_from now (seen_lines [] block))) → IsAnswered s now' buffer' input rest' old new'
      block-next now' new' left wrote =
          answered-next now' new'
          (left ∙ ap (λ b. standing_from now (seen_lines [] b)) shown)
          (subst (λ b. Appends new new' (text_of_lines (said_from now (seen_lines [] b)))) shown wrote)

      -- some whole lines of their answers are written
      pub block-in_lines : (new' : Option (List ℕ)) → AppendsLinesOf new new' (said_from now (seen_lines [] block)) → IfSome input (λ all. AppendsLinesOf old new' (said_to_input s all))
      block-in_lines new' wrote =
          answered-in_lines new' (subst (λ b. AppendsLinesOf new new' (said_from now (seen_lines [] b))) shown wrote)

      -- a part of their answers is written
      pub block-in_part : (new' : Option (List ℕ)) → AppendsPartOf new new' (text_of_lines (said_from now (seen_lines [] block))) → IfSome input (λ all. AppendsPartOf old new' (text_of_lines (said_to_input s all)))
      block-in_part new' wrote =
          answered-in_part new' (subst (λ b. AppendsPartOf new new' (text_of_lines (said_from now (seen_lines [] b)))) shown wrote)

    -- ---- at the end of the stream

    module _ (ended : came ≡ false) where
      same_text : text' ≡ a.text
      same_text = ap (λ bytes. a.text ++ bytes) (hears.none ended) ∙ append-nil a.text

      -- what holds of the text holds of the input
      of_all : (P : List ℕ → Type 0) → P a.text → IfSome input P
      of_all P holds = Consumes-whole input rest' a.text P (subst (Consumes input rest') same_text consumed') (hears.at_end ended) holds

      end_heard : HasHeard buffer' a.text
      end_heard = subst (HasHeard buffer') same_text (heard-next buffer buffer' rest rest' came a.text a.heard hears)

      -- what is said of the line that has begun
      said_of_last : said_of_begun now buffer'.begun ≡ said_of_begun (standing_from s (seen_lines [] a.text)) (begun_line [] a.text)
      said_of_last =
          ap (λ t. said_of_begun t buffer'.begun) a.left
          ∙ ap (said_of_begun (standing_from s (seen_lines [] a.text))) end_heard
          ∙ said_of_begun-kept (standing_from s (seen_lines [] a.text)) (begun_line [] a.text)

      -- all answers are written
      pub answered-end : (new' : Option (List ℕ)) → Appends new new' (text_of_lines (said_of_begun now buffer'.begun)) → IfSome input (λ all. Appends old new' (text_of_lines (said_to_input s all)))
      answered-end new' wrote =
          of_all (λ all. Appends old new' (text_of_lines (said_to_input s all)))
          (subst (Appends old new') (sym (flat_map-append _ (said_from s (seen_lines [] a.text)) (said_of_begun (standing_from s (seen_lines [] a.text)) (begun_line [] a.text))))
          (Appends-trans old new new' _ _ a.written (subst (λ lines. Appends new new' (text_of_lines lines)) said_of_last wrote)))

      -- and it is known whether a line had a fault
      pub fault-end : (fault : Bool) → fault ≡ (now.has_fault || is_torn buffer'.begun) → IfSome input (λ all. fault ≡ has_fault_of s all)
      fault-end fault told =
          of_all (λ all. fault ≡ has_fault_of s all)
          (told
          ∙ ap (λ (t : Broker). t.has_fault || is_torn buffer'.begun) a.left
          ∙ ap (λ torn. (standing_from s (seen_lines [] a.text)).has_fault || torn) (ap is_torn end_heard ∙ is_torn-kept (begun_line [] a.text)))

      -- a part of the last answer is written
      pub end-in_part : (new' : Option (List ℕ)) → AppendsPartOf new new' (text_of_lines (said_of_begun now buffer'.begun)) → IfSome input (λ all. AppendsPartOf old new' (text_of_lines (said_to_input s all)))
      end-in_part new' wrote =
          let first = said_from s (seen_lines [] a.text) in
          let last = said_of_begun (standing_from s (seen_lines [] a.text)) (begun_line [] a.text) in
          of_all (λ all. AppendsPartOf old new' (text_of_lines (said_to_input s all)))
          (subst (λ lines. AppendsPartOf old new' (text_of_lines lines)) (append-nil (first ++ last))
          (part-later old new new' first last [] a.written (subst (λ lines. AppendsPartOf new new' (text_of_lines lines)) said_of_last wrote)))

      -- nothing of it is
      pub end-in_lines : (new' : Option (List ℕ)) → Keeps new new' → IfSome input (λ all. AppendsLinesOf old new' (said_to_input s all))
      end-in_lines new' kept =
          let first = said_from s (seen_lines [] a.text) in
          of_all (λ all. AppendsLinesOf old new' (said_to_input s all))
          (lines-all old new' first (said_of_begun (standing_from s (seen_lines [] a.text)) (begun_line [] a.text)) (Appends-kept old new new' _ a.written kept))
