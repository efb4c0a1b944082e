-- The first line of a journal, while it is heard.
use Rattle.std.proofs.Common.{◌≡◌, ◌≢◌, ℕ, Bool, false, List, [], ◌++◌, length, drop, Option, IfSome, sym, ap, ◌∙◌, subst, append_assoc, append-nil}
use Rattle.std.specs.Io.KnownBytes.{Consumes}
use Rattle.std.proofs.KnownBytes.{Consumes-whole}
use Rattle.dine_words.specs.declared.header.Header.{Header}
use Rattle.dine_words.specs.Versions.{AllowsLimits}
use Rattle.dine_replay.specs.declared.audit_answer.AuditFault.TheVariants.{Header as header}
use Rattle.dine_words.specs.JournalText.{HasNoHeader}
use Rattle.dine_journal.specs.JournalText.{header_line_of}
use Rattle.dine_streams.specs.Heard.{LineBuffer, Hears}
use Rattle.dine_streams.specs.Lines.{begun_line, ended_lines, kept_of}
use Rattle.dine_streams.proofs.CallerLemmas.{begun-on, ended-pieces, one-begun}
use Rattle.dine_replay.specs.Replaying.{HearsHeader, IsRefusal}
use Rattle.dine_replay.proofs.Fronts.{no_header-on, no_header-torn}
use Rattle.dine_replay.proofs.OneRead.{begun_on, consumed_on, heard_on}
use Rattle.dine_replay.proofs.Steps.{consumed-whole}

-- this was heard so far, all of it of the first line, and all of it is kept
module _ (first before after : Option (List ℕ)) (old new : LineBuffer) (came : Bool) (heard : List ℕ) (consumed : Consumes first before heard) (one : ended_lines [] heard ≡ []) (kept : old.begun ≡ heard) (hears : Hears old new before after came) where
  pub consumed_more : Consumes first after (heard ++ hears.bytes)
  consumed_more = consumed_on before after old new came hears first heard consumed

  -- no line was ended
  module _ (none : new.lines ≡ []) where
    none_ended : ended_lines heard hears.bytes ≡ []
    none_ended = ap (λ begun. ended_lines begun hears.bytes) (sym kept) ∙ sym hears.lines ∙ ap (ended_lines []) none

    -- all that was heard ends no line
    pub one_more : ended_lines [] (heard ++ hears.bytes) ≡ []
    one_more =
        ended-pieces [] heard hears.bytes
        ∙ ap (λ lines. lines ++ ended_lines (begun_line [] heard) hears.bytes) one
        ∙ ap (λ begun. ended_lines begun hears.bytes) (begun-on [] heard one)
        ∙ none_ended

    -- and the buffer keeps what it has to of it
    pub kept_more : new.begun ≡ kept_of (heard ++ hears.bytes)
    kept_more = begun_on before after old new came hears heard kept ∙ ap kept_of (begun-on heard hears.bytes none_ended)

  -- the stream has ended
  pub header_torn : came ≡ false → IfSome first (λ text. IsRefusal text header)
  header_torn last =
      Consumes-whole first after (heard ++ hears.bytes) (λ text. IsRefusal text header) consumed_more (hears.at_end last)
      (no_header-torn (heard ++ hears.bytes) (ap (λ l. ended_lines [] (heard ++ l)) (hears.none last) ∙ ap (ended_lines []) (append-nil heard) ∙ one))

  -- the first line is no header
  pub header_refused : begun_line [] new.lines ≡ [] → new.lines ≢ [] → HasNoHeader new.lines → IfSome first (λ text. IsRefusal text header)
  header_refused ended some none =
      consumed-whole first after (heard ++ hears.bytes) (λ text. IsRefusal text header) consumed_more
      (λ more. subst HasNoHeader (sym (ap (λ l. l ++ more) (heard_on before after old new came hears heard kept ended) ∙ append_assoc new.lines (begun_line heard hears.bytes) more)) (no_header-on new.lines (begun_line heard hears.bytes ++ more) ended some none))

  -- it is one
  pub header_heard : (found : Header) (place : ℕ) → begun_line [] new.lines ≡ [] → AllowsLimits found.version found.limits
      → new.lines ≡ header_line_of found.version found.limits ++ drop place new.lines → place ≡ length (header_line_of found.version found.limits)
      → HearsHeader first after new found place
  header_heard found place ended allowed is at =
      record {
        heard = heard ++ hears.bytes;
        rest = drop place new.lines;
        begun = begun_line heard hears.bytes;
        consumed = consumed_more;
        whole = heard_on before after old new came hears heard kept ended ∙ ap (λ l. l ++ begun_line heard hears.bytes) is ∙ append_assoc (header_line_of found.version found.limits) (drop place new.lines) (begun_line heard hears.bytes);
        allowed = allowed;
        lines = is;
        place_is = at;
        one = one-begun heard hears.bytes one;
        kept = begun_on before after old new came hears heard kept;
      }
