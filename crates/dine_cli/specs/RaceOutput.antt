-- What a race writes, and how it ends, by its scenario's text and by what comes of it.
use Rattle.std.specs.Prelude.{◌≡◌, ℕ, ◌⊎◌, List, [], ◌∷◌, ◌++◌, length, Option, Ok, Err}
use Rattle.std.specs.Io.KnownBytes.{Appends, Keeps}
use Rattle.dine_front.specs.declared.verdict.Verdict.{Verdict}
use Rattle.dine_front.specs.declared.verdict.Verdict.TheVariants.{Missing, Differs, Settled}
use Rattle.dine_journal.specs.JournalText.{journal_text}
use Rattle.dine_scenario.specs.declared.scenario_fault.ScenarioFault.{ScenarioFault}
use Rattle.dine_scenario.specs.declared.scenario.Scenario.{Scenario}
use Rattle.dine_scenario.specs.FaultText.{scenario_fault_text}
use Rattle.dine_scenario.specs.Plan.{plan_in}
use Rattle.dine_scenario.specs.Scenarios.{scenario_of}
use Rattle.dine_race.specs.declared.racing.Raced.{Raced}
use Rattle.dine_race.specs.Races.{IsOutcome}
use Rattle.dine_race.specs.Report.{report_lines}
use Rattle.dine_streams.specs.declared.ended.Ended.{Ended}
use Rattle.dine_streams.specs.declared.ended.Ended.TheVariants as ended
use Rattle.dine_lines.specs.declared.print.Print.{Print}
use Rattle.dine_lines.specs.declared.print.Print.TheVariants.{Replies, Journal}
use Rattle.dine_script.specs.Script.{journal_lines}
use Rattle.dine_streams.specs.Written.{AppendsLinesOf, AppendsPartOf}
use Rattle.dine_words.specs.Texts.{text_of_lines}

-- what comes of a text: the first check that it fails, or a race of the scenario that it says
pub data RaceAnswer : Type 0 where
  Refused : ScenarioFault → RaceAnswer
  Ran : Scenario → Raced → RaceAnswer

-- the text says so; and what comes of the race is what can come of it
abbrev pub IsAnswerTo : List ℕ → RaceAnswer → Type 0
IsAnswerTo text (Refused fault) = scenario_of text ≡ Err fault
IsAnswerTo text (Ran scenario raced) =
    (scenario_of text ≡ Ok (plan_in scenario)) × IsOutcome scenario raced.names raced.journal raced.verdict

-- the lines of a race: its report, or the lines of its journal alone
abbrev pub raced_lines : Print → ℕ → Raced → List (List ℕ)
raced_lines Replies workers raced = report_lines workers raced.names raced.journal.entries raced.verdict
raced_lines Journal workers raced = journal_lines raced.journal.limits raced.journal.entries

-- what a race writes: its report, each line with its line feed, or the text of its journal alone
abbrev pub raced_output : Print → ℕ → Raced → List ℕ
raced_output Replies workers raced = text_of_lines (raced_lines Replies workers raced)
raced_output Journal workers raced = journal_text raced.journal.limits raced.journal.entries

-- the lines of an answer. A check that fails is written whatever is asked for
abbrev pub race_lines : Print → RaceAnswer → List (List ℕ)
race_lines print (Refused fault) = scenario_fault_text fault ∷ []
race_lines print (Ran scenario raced) = raced_lines print (length scenario.workers.items) raced

-- what is written of an answer
abbrev pub race_output : Print → RaceAnswer → List ℕ
race_output print (Refused fault) = scenario_fault_text fault ++ 10 ∷ []
race_output print (Ran scenario raced) = raced_output print (length scenario.workers.items) raced

-- how a race with this verdict ends: well where all is settled
abbrev pub verdict_end : Verdict → Ended
verdict_end Settled = ended.Good
verdict_end (Missing k) = ended.Wrong
verdict_end (Differs k i) = ended.Wrong

-- how a run with this answer ends
abbrev pub race_end : RaceAnswer → Ended
race_end (Refused fault) = ended.Fault
race_end (Ran scenario raced) = verdict_end raced.verdict

-- known bytes grow by what is written of an answer to the text, and the run ends as that answer does
pub record IsRaced (print : Print) (text : List ℕ) (old new : Option (List ℕ)) (end : Ended) : Type 0 where
  pub answer : RaceAnswer
  pub right : IsAnswerTo text answer
  pub written : Appends old new (race_output print answer)
  pub ends : end ≡ race_end answer

-- known bytes stay, or grow by some lines of an answer to the text, from the front, each whole
abbrev pub IsRacedInLines : Print → List ℕ → Option (List ℕ) → Option (List ℕ) → Type 0
IsRacedInLines print text old new =
    Keeps old new
    ⊎ ((answer : RaceAnswer) × IsAnswerTo text answer × AppendsLinesOf old new (race_lines print answer))

-- known bytes grow by a part of what is written of an answer to the text
abbrev pub IsRacedInPart : Print → List ℕ → Option (List ℕ) → Option (List ℕ) → Type 0
IsRacedInPart print text old new =
    (answer : RaceAnswer) × IsAnswerTo text answer × AppendsPartOf old new (race_output print answer)
