-- What a runner of lines does with its pass and its names.
use Rattle.std.specs.Prelude.{◌≡◌, List, map, ◌++◌}
use Rattle.dine_words.specs.declared.call.Call.{Call}
use Rattle.dine_scenario.specs.declared.scenario.Step.{Step}
use Rattle.dine_journal.specs.declared.hall.Answer.{Answer}
use Rattle.dine_front.specs.Passes.{Pass}
use Rattle.dine_lines.specs.Names.{Names}
use Rattle.dine_race.specs.Runs.{Made, RunsLines}

-- what is seen of a runner: its pass, and the names that it has bound
pub record Runner : Type 0 where
  pub pass : Pass
  pub names : Names

-- the calls of receipts, with their replies
abbrev pub calls_of : List (Call × Answer) → List Made
calls_of receipts = map (λ receipt. (receipt.0, receipt.1.reply)) receipts

-- the pass p has made these calls, got these replies, and is q now: it is still the same pass
pub record MadeCalls (p : Pass) (calls : List Made) (q : Pass) : Type 0 where
  pub number : q.number ≡ p.number
  pub added : List (Call × Answer)
  pub receipts : q.receipts ≡ p.receipts ++ added
  pub are : calls_of added ≡ calls

-- the runner has run these lines
pub record HasRun (before : Runner) (lines : List Step) (after : Runner) : Type 0 where
  pub calls : List Made
  pub made : MadeCalls before.pass calls after.pass
  pub run : RunsLines before.names lines calls after.names

-- the runner has run these lines, and its pass is handed back
abbrev pub HandsBack : Runner → List Step → Pass → Type 0
HandsBack before lines pass = (names : Names) × HasRun before lines (record { pass = pass; names = names })
