-- What becomes of a text that is drawn, by what becomes of its parts.
use Rattle.std.proofs.Common.{◌≡◌, ℕ, ◌≤◌, inl, inr, List, ◌++◌, Result, Ok, Err, IfOk, OnOk, ap, ◌∙◌, append_assoc, arith}
use Rattle.dine_replay.specs.declared.audit_answer.AuditFault.{AuditFault}
use Rattle.dine_replay.specs.declared.audit_answer.Checked.{Checked}
use Rattle.dine_journal.specs.JournalText.{IsTextOf}
use Rattle.dine_replay.specs.Audit.{IsAnswer, TellsOfText}
use Rattle.dine_journal.specs.Kept.{Journal}
use Rattle.dine_chart.specs.declared.picture.TheConstants.{MOST_PLACES}
use Rattle.dine_command_line.specs.declared.request.Chart.{Chart}
use Rattle.dine_streams.specs.declared.ended.Ended.{Ended}
use Rattle.dine_streams.specs.declared.ended.CliFault.{CliFault}
use Rattle.dine_replay.specs.AuditOutput.{audit_end, audit_output}
use Rattle.dine_cli.specs.ChartOutput.{IsChartText, IsDrawn, IsTooLong, Lawful, Unlawful}

-- the line of a label and a number, written part by part
pub as_line : (before label number end : List ℕ) → before ++ label ++ number ++ end ≡ before ++ (label ++ number ++ end)
as_line before label number end = ap (λ text. text ++ end) (append_assoc before label number) ∙ append_assoc before (label ++ number) end

-- so many places are a picture's
pub not_long : (p q : ℕ) → p ≡ q → (p ≡ 0 → ⊥) → p ≤ MOST_PLACES → IsTooLong q → ⊥
not_long p q e some few (inl z) = some (e ∙ z)
not_long p q e some few (inr m) = omega arith

-- a legal journal
pub lawful : (chart : Chart) (text old new : List ℕ) (journal : Journal) (end : Ended) → IsTextOf text journal → IsDrawn chart journal old new end → IsChartText chart text old new end
lawful chart text old new journal end is drawn = record {
  answer = Lawful journal drawn.outcome;
  right = (is, drawn.right);
  written = drawn.written;
  ends = drawn.ends;
}

-- a text that is none
pub unlawful : (chart : Chart) (text old new : List ℕ) (fault : AuditFault) (r : Result Ended CliFault) → IsAnswer text (Err fault) → OnOk r (TellsOfText {X = Checked} (Err fault)) → OnOk r (new ≡ old ++ audit_output (Err fault)) → IfOk r (λ end. end ≡ audit_end (Err fault)) → IfOk r (λ end. IsChartText chart text old new end)
unlawful chart text old new fault (Ok end) is tells lines ends = record {
  answer = Unlawful fault;
  right = (tells, is);
  written = lines;
  ends = ends;
}
unlawful chart text old new fault (Err gave_up) is tells lines ends = tt
