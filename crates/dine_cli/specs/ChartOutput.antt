-- What a chart writes, and how it ends, by the text of its journal.
use Rattle.std.specs.Prelude.{◌≡◌, ℕ, ◌<◌, ◌≤◌, ◌⊎◌, List, ◌++◌, length, codes, decimal, Option, Err}
use Rattle.std.specs.Io.KnownBytes.{Appends}
use Rattle.dine_replay.specs.declared.audit_answer.AuditFault.{AuditFault}
use Rattle.dine_journal.specs.JournalText.{IsTextOf}
use Rattle.dine_replay.specs.Audit.{IsAnswer, TellsOfText}
use Rattle.dine_journal.specs.Kept.{Journal}
use Rattle.dine_replay.specs.declared.audit_answer.Checked.{Checked}
use Rattle.dine_bars.specs.declared.bar.Window.{Window}
use Rattle.dine_lines.specs.declared.form.Form.{Form}
use Rattle.dine_chart.specs.declared.picture.Picture.{Picture}
use Rattle.dine_chart.specs.Forms.{picture_text}
use Rattle.dine_chart.specs.Gather.{IsPictureOf}
use Rattle.dine_chart.specs.Picture.{most_lanes, most_places, places_of, window_in}
use Rattle.dine_command_line.specs.declared.request.Chart.{Chart}
use Rattle.dine_streams.specs.declared.ended.Ended.{Ended}
use Rattle.dine_streams.specs.declared.ended.Ended.TheVariants as ended
use Rattle.dine_replay.specs.AuditOutput.{audit_end, audit_output}
use Rattle.dine_streams.specs.Written.{AppendsPartOf}

-- what becomes of a legal journal: it has too many places to be drawn, or none, or too many lanes, or else a picture
pub data ChartOutcome : Type 0 where
  TooLong : ℕ → ChartOutcome
  TooMany : ℕ → ChartOutcome
  Drawn : Picture → ChartOutcome

-- what becomes of a text: the fault of one that is no legal journal, or what becomes of the journal
pub data ChartAnswer : Type 0 where
  Unlawful : AuditFault → ChartAnswer
  Lawful : Journal → ChartOutcome → ChartAnswer

-- what of the journal is asked for
abbrev pub window_asked : Chart → Journal → Window
window_asked chart journal = window_in record { from = chart.from; to = chart.to } (length journal.entries)

-- so many places are no picture's
abbrev pub IsTooLong : ℕ → Type 0
IsTooLong places = (places ≡ 0) ⊎ (most_places < places)

-- this becomes of the journal
abbrev pub IsOutcomeOf : Chart → Journal → ChartOutcome → Type 0
IsOutcomeOf chart journal (TooLong places) =
    (places ≡ places_of (window_asked chart journal)) × IsTooLong places
IsOutcomeOf chart journal (TooMany lanes) =
    (p : Picture) × IsPictureOf journal (window_asked chart journal) chart.labels.items p
    × (lanes ≡ length p.lanes.items) × (most_lanes < lanes)
IsOutcomeOf chart journal (Drawn p) =
    IsPictureOf journal (window_asked chart journal) chart.labels.items p
    × (length p.lanes.items ≤ most_lanes) × (IsTooLong (places_of (window_asked chart journal)) → ⊥)

-- this becomes of the text
abbrev pub IsChartOf : Chart → List ℕ → ChartAnswer → Type 0
IsChartOf chart text (Unlawful fault) = TellsOfText {X = Checked} (Err fault) × IsAnswer text (Err fault)
IsChartOf chart text (Lawful journal outcome) = IsTextOf text journal × IsOutcomeOf chart journal outcome

-- what is written of it: the picture, or how many places or lanes there are
abbrev pub outcome_text : Form → ChartOutcome → List ℕ
outcome_text form (TooLong places) = codes "fault places " ++ decimal places ++ codes "\n"
outcome_text form (TooMany lanes) = codes "fault lanes " ++ decimal lanes ++ codes "\n"
outcome_text form (Drawn p) = picture_text form p

-- what is written of a text. One that is no legal journal is answered as an audit does
abbrev pub chart_output : Form → ChartAnswer → List ℕ
chart_output form (Unlawful fault) = audit_output (Err fault)
chart_output form (Lawful journal outcome) = outcome_text form outcome

-- how the run ends where the journal is legal
abbrev pub outcome_end : ChartOutcome → Ended
outcome_end (TooLong places) = ended.Fault
outcome_end (TooMany lanes) = ended.Fault
outcome_end (Drawn p) = ended.Good

-- how the run ends with this answer
abbrev pub chart_end : ChartAnswer → Ended
chart_end (Unlawful fault) = audit_end (Err fault)
chart_end (Lawful journal outcome) = outcome_end outcome

-- bytes grow by what is written of the journal, and the run ends so
pub record IsDrawn (chart : Chart) (journal : Journal) (old new : List ℕ) (end : Ended) : Type 0 where
  pub outcome : ChartOutcome
  pub right : IsOutcomeOf chart journal outcome
  pub written : new ≡ old ++ outcome_text chart.form outcome
  pub ends : end ≡ outcome_end outcome

-- bytes grow by what is written of the text, and the run ends so
pub record IsChartText (chart : Chart) (text old new : List ℕ) (end : Ended) : Type 0 where
  pub answer : ChartAnswer
  pub right : IsChartOf chart text answer
  pub written : new ≡ old ++ chart_output chart.form answer
  pub ends : end ≡ chart_end answer

-- known bytes grow by what is written of the text, and the run ends so
pub record IsCharted (chart : Chart) (text : List ℕ) (old new : Option (List ℕ)) (end : Ended) : Type 0 where
  pub answer : ChartAnswer
  pub right : IsChartOf chart text answer
  pub written : Appends old new (chart_output chart.form answer)
  pub ends : end ≡ chart_end answer

-- known bytes grow by a part of what is written of the text
pub record IsPartlyCharted (chart : Chart) (text : List ℕ) (old new : Option (List ℕ)) : Type 0 where
  pub answer : ChartAnswer
  pub right : IsChartOf chart text answer
  pub written : AppendsPartOf old new (chart_output chart.form answer)
