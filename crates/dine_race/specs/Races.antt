-- What a race is: the setup alone at first, and then the workers, each on a pass of its own.
use Rattle.std.specs.Prelude.{◌≡◌, ℕ, ◌+◌, ◌<◌, ◌==◌, List, map, [], ◌∷◌, ◌++◌, length, Some, slice_get}
use Rattle.std.specs.List.{filter}
use Rattle.dine_words.specs.declared.call.Call.{Call}
use Rattle.dine_words.specs.declared.entry.Entry.{Entry}
use Rattle.dine_table.specs.History.{IsLegal}
use Rattle.dine_journal.specs.declared.hall.Answer.{Answer}
use Rattle.dine_journal.specs.Kept.{Journal}
use Rattle.dine_front.specs.declared.verdict.Verdict.{Verdict}
use Rattle.dine_front.specs.Passes.{Pass}
use Rattle.dine_front.specs.Verdicts.{IfSettled}
use Rattle.dine_lines.specs.Names.{Names}
use Rattle.dine_scenario.specs.declared.scenario.Scenario.{Scenario}
use Rattle.dine_scenario.specs.declared.scenario.Worker.{Worker}
use Rattle.dine_race.specs.Runs.{Made, RunsLines, lines_of_setup, repeated}
use Rattle.dine_race.specs.Runners.{HasRun}
use Rattle.dine_race.specs.Works.{AreDone, works_with}

-- ---- histories

-- the entry of a call that pass k made
abbrev pub entry_of : ℕ → Made → Entry
entry_of k made = record { pass = k; call = made.0; reply = made.1 }

-- the calls that pass k made, with their replies, in order
abbrev pub made_by : ℕ → List Entry → List Made
made_by k history = map (λ e. (e.call, e.reply)) (filter (λ e. e.pass == k) history)

-- The history of a race. It begins with the calls of the setup, which are a run of its lines, on pass 0. The calls that
-- pass k made after them are a run of worker k's steps, done as often as it says, from the setup's names. There are no
-- other calls: each entry is that of a worker's pass
pub record IsRaceOf (scenario : Scenario) (names : Names) (history : List Entry) : Type 0 where
  pub setup : List Made
  pub is_set_up : RunsLines [] (lines_of_setup scenario.setup.items) setup names
  pub later : List Entry
  pub setup_first : history ≡ map (entry_of 0) setup ++ later
  pub each_worker_runs : (k : ℕ) (worker : Worker) → slice_get scenario.workers.items k ≡ Some worker
      → (after : Names) × RunsLines names (repeated worker.repeat worker.steps.items) (made_by k later) after
  pub workers_alone : (i : ℕ) (e : Entry) → slice_get history i ≡ Some e → e.pass < length scenario.workers.items

-- What comes of a race: a legal history under the scenario's limits, a verdict, and the names that some run of the setup
-- leaves. Where all is settled, the history is that of a race of this scenario, and the names are those of its setup
pub record IsOutcome (scenario : Scenario) (names : Names) (journal : Journal) (verdict : Verdict) : Type 0 where
  pub limits : journal.limits ≡ scenario.limits
  pub legal : IsLegal journal.limits journal.entries
  pub named : (setup : List Made) × RunsLines [] (lines_of_setup scenario.setup.items) setup names
  pub settled : IfSettled verdict (IsRaceOf scenario names journal.entries)

-- ---- passes

-- the calls of these receipts are the first of the history: their places are 0, 1, ..
abbrev pub AreFirst : List (Call × Answer) → Type 0
AreFirst receipts = (k : ℕ) (receipt : Call × Answer) → slice_get receipts k ≡ Some receipt → receipt.1.place ≡ k

-- these passes are numbered k, k + 1, .., and made no call
abbrev pub AreNewFrom : ℕ → List Pass → Type 0
AreNewFrom k [] = Unit {0}
AreNewFrom k (pass ∷ passes) = (pass.number ≡ k) × (pass.receipts ≡ []) × AreNewFrom (k + 1) passes

-- pass 0 ran the setup before there was any other call, and then the workers did their steps with the passes of their
-- numbers
pub record HasRaced (scenario : Scenario) (names : Names) (handed : List Pass) : Type 0 where
  pub first : Pass
  pub others : List Pass
  pub one_each : length (first ∷ others) ≡ length scenario.workers.items
  pub set_up :
      HasRun (record { pass = record { number = 0; receipts = []; seen = [] }; names = [] })
      (lines_of_setup scenario.setup.items) (record { pass = first; names = names })
  pub comes_first : AreFirst first.receipts
  pub others_new : AreNewFrom 1 others
  pub done : AreDone (works_with names (first ∷ others) scenario.workers.items) handed
