-- A journal that is replayed read by read, after its header.
use Rattle.std.proofs.Common.{◌≡◌, ◌≢◌, ◌↔◌, ℕ, ◌+◌, ◌-◌, ◌^◌, ◌<◌, ◌≤◌, Bool, false, IsTrue, List, [], ◌++◌, length, take, drop, Option, IfSome, Ok, refl, sym, ap, ◌∙◌, subst, append-nil, arith}
use Rattle.std.specs.Io.KnownBytes.{Consumes}
use Rattle.std.proofs.KnownBytes.{Consumes-whole}
use Rattle.std.proofs.Math.Seq.{drop-append_seam}
use Rattle.std.proofs.lemmas.List.{take_all, take_rest}
use Rattle.dine_words.specs.declared.header.Header.{Header}
use Rattle.dine_words.specs.Texts.{header_text}
use Rattle.dine_replay.specs.declared.audit_answer.AuditFault.{AuditFault}
use Rattle.dine_replay.specs.declared.audit_answer.AuditFault.TheVariants.{Line, Read}
use Rattle.dine_journal.specs.JournalText.{header_line_of}
use Rattle.dine_streams.specs.Heard.{LineBuffer, Hears}
use Rattle.dine_streams.specs.Lines.{begun_line, ended_lines, kept_of}
use Rattle.dine_streams.proofs.CallerLemmas.{one-begun}
use Rattle.dine_replay.specs.declared.replayed.Replayed.{Replayed}
use Rattle.dine_replay.specs.Lines.{AddsLines, IsOpened, IsStoppedIn}
use Rattle.dine_replay.specs.Noting.{Telling}
use Rattle.dine_replay.specs.Replaying.{HearsHeader, IsRefusal, IsReplay, IsReplayedBefore}
use Rattle.dine_replay.proofs.OneRead.{begun_on, consumed_on, heard_on}
use Rattle.dine_replay.proofs.Steps.{added, consumed-whole, endless, heard_more, line-ended, opened, stopped, too_long, with_torn}

-- ---- the lines that were heard with the header

module _ (first after : Option (List ℕ)) (buffer : LineBuffer) (found : Header) (place : ℕ) (h : HearsHeader first after buffer found place) (lines : List ℕ) (is : lines ≡ buffer.lines) (ended : begun_line [] lines ≡ []) where
  -- the lines behind the header are the rest that was heard with it
  pub rest_is : take (length lines - place) (drop place lines) ≡ h.rest
  rest_is =
      take_rest lines place
      ∙ ap (drop place) (is ∙ h.lines)
      ∙ ap (λ n. drop n (header_line_of found.version found.limits ++ h.rest)) h.place_is
      ∙ drop-append_seam (header_line_of found.version found.limits) h.rest

  rest_ended : begun_line [] (take (length lines - place) (drop place lines)) ≡ []
  rest_ended = ap (begun_line []) rest_is ∙ sym (line-ended (header_text found.version found.limits) h.rest) ∙ ap (begun_line []) (sym (is ∙ h.lines)) ∙ ended

  module _ (new : Replayed) (p : IsOpened found new) where
    before_rest : IsReplayedBefore h.heard (h.rest ++ h.begun) new
    before_rest = opened h.heard (h.rest ++ h.begun) found new p h.allowed h.whole

    front_is : h.rest ++ h.begun ≡ take (length lines - place) (drop place lines) ++ h.begun
    front_is = ap (λ l. l ++ h.begun) (sym rest_is)

    -- once those lines are added, all is replayed but what has begun behind them
    pub first_added : (next : Replayed) (was is_told : Telling) → AddsLines new next was is_told (take (length lines - place) (drop place lines)) → IsReplayedBefore h.heard h.begun next
    first_added next was is_told adds = added h.heard (h.rest ++ h.begun) new before_rest (take (length lines - place) (drop place lines)) h.begun next was is_told front_is adds

    module _ (fault : AuditFault) (stop : IsStoppedIn new.version new.arbiter.table new.entries (take (length lines - place) (drop place lines)) fault) where
      -- where one of them is refused, the text is
      pub first_stopped : IfSome first (λ text. IsRefusal text fault)
      first_stopped =
          consumed-whole first after h.heard (λ text. IsRefusal text fault) h.consumed
          (stopped h.heard (h.rest ++ h.begun) new before_rest (take (length lines - place) (drop place lines)) h.begun front_is fault rest_ended stop)

      -- the fault that tells nothing of the text comes only of one with some 2 ^ 64 bytes
      pub first_endless : fault ≡ Read → IfSome first (λ text. 2 ^ 64 - 2 ≤ length text)
      first_endless read =
          consumed-whole first after h.heard (λ text. 2 ^ 64 - 2 ≤ length text) h.consumed
          (endless h.heard (h.rest ++ h.begun) new before_rest (take (length lines - place) (drop place lines)) h.begun front_is fault stop read)

-- ---- those of one read

module _ (first before after : Option (List ℕ)) (old new : LineBuffer) (came : Bool) (heard begun : List ℕ) (replayed : Replayed) (consumed : Consumes first before heard) (p : IsReplayedBefore heard begun replayed) (one : ended_lines [] begun ≡ []) (kept : old.begun ≡ begun) (hears : Hears old new before after came) where
  pub consumed_next : Consumes first after (heard ++ hears.bytes)
  consumed_next = consumed_on before after old new came hears first heard consumed

  -- no line ends in what has begun
  pub one_next : ended_lines [] (begun_line begun hears.bytes) ≡ []
  one_next = one-begun begun hears.bytes one

  module _ (text : List ℕ) (is : text ≡ new.lines) (ended : begun_line [] text ≡ []) where
    all_next : begun ++ hears.bytes ≡ text ++ begun_line begun hears.bytes
    all_next =
        heard_on before after old new came hears begun kept (subst (λ (l : List ℕ). begun_line [] l ≡ []) is ended)
        ∙ ap (λ l. l ++ begun_line begun hears.bytes) (sym is)

    more : IsReplayedBefore (heard ++ hears.bytes) (text ++ begun_line begun hears.bytes) replayed
    more = heard_more heard begun replayed p hears.bytes (text ++ begun_line begun hears.bytes) all_next

    -- once the lines of the read are added, all is replayed but what has begun behind them
    pub added_next : (next : Replayed) (was is_told : Telling) → AddsLines replayed next was is_told text → IsReplayedBefore (heard ++ hears.bytes) (begun_line begun hears.bytes) next
    added_next next was is_told adds = added (heard ++ hears.bytes) (text ++ begun_line begun hears.bytes) replayed more text (begun_line begun hears.bytes) next was is_told refl adds

    module _ (fault : AuditFault) (stop : IsStoppedIn replayed.version replayed.arbiter.table replayed.entries text fault) where
      -- where one of them is refused, the text is
      pub stopped_next : IfSome first (λ t. IsRefusal t fault)
      stopped_next =
          consumed-whole first after (heard ++ hears.bytes) (λ t. IsRefusal t fault) consumed_next
          (stopped (heard ++ hears.bytes) (text ++ begun_line begun hears.bytes) replayed more text (begun_line begun hears.bytes) refl fault ended stop)

      -- the fault that tells nothing of the text comes only of one with some 2 ^ 64 bytes
      pub endless_next : fault ≡ Read → IfSome first (λ t. 2 ^ 64 - 2 ≤ length t)
      endless_next read =
          consumed-whole first after (heard ++ hears.bytes) (λ t. 2 ^ 64 - 2 ≤ length t) consumed_next
          (endless (heard ++ hears.bytes) (text ++ begun_line begun hears.bytes) replayed more text (begun_line begun hears.bytes) refl fault stop read)

  -- the stream has ended
  pub ends : came ≡ false → length old.begun ≤ 4096 → (is_torn : Bool) → (IsTrue is_torn ↔ (new.begun ≢ [])) → IfSome first (λ t. IsReplay t (Ok (record replayed { is_torn = is_torn })))
  ends last short is_torn told =
      let none : hears.bytes ≡ [] = hears.none last in
      let all : new.begun ≡ begun =
      begun_on before after old new came hears begun kept ∙ ap (λ l. kept_of (begun_line begun l)) none
      ∙ take_all 4097 begun (let few : length begun ≤ 4096 = subst (λ (l : List ℕ). length l ≤ 4096) kept short in omega arith) in
      Consumes-whole first after (heard ++ hears.bytes) (λ t. IsReplay t (Ok (record replayed { is_torn = is_torn }))) consumed_next (hears.at_end last)
      record {
        torn = begun;
        before = with_torn (heard ++ hears.bytes) begun replayed is_torn (heard_more heard begun replayed p hears.bytes begun (ap (λ l. begun ++ l) none ∙ append-nil begun));
        one = one;
        is_torn = subst (λ (l : List ℕ). IsTrue is_torn ↔ (l ≢ [])) all told;
      }

-- a line is too long
pub long_line : (first before : Option (List ℕ)) (heard begun : List ℕ) (replayed : Replayed) → Consumes first before heard → IsReplayedBefore heard begun replayed → ended_lines [] begun ≡ [] → 4096 < length begun
    → IfSome first (λ text. IsRefusal text (Line (replayed.entries + 1)))
long_line first before heard begun replayed consumed p one long =
    consumed-whole first before heard (λ text. IsRefusal text (Line (replayed.entries + 1))) consumed (λ more. too_long heard begun replayed p more one long)
