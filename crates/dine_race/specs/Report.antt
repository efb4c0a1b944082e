-- What a race writes.
use Rattle.std.specs.Prelude.{ℕ, List, map, [], ◌∷◌, ◌++◌, codes, decimal, length}
use Rattle.std.specs.List.{count_by}
use Rattle.dine_words.specs.declared.task.Task.{Task}
use Rattle.dine_words.specs.declared.entry.Entry.{Entry}
use Rattle.dine_table.specs.History.{grants_meal}
use Rattle.dine_words.specs.Texts.{text_of_lines}
use Rattle.dine_front.specs.declared.verdict.Verdict.{Verdict}
use Rattle.dine_front.specs.declared.verdict.Verdict.TheVariants.{Missing, Differs, Settled}
use Rattle.dine_lines.specs.Names.{Names}

-- how often the task began to eat
abbrev pub meals_of : Task → List Entry → ℕ
meals_of t history = count_by (grants_meal t) history

-- a name, and how often its task began to eat
abbrev pub meals_line : List Entry → List ℕ × Task → List ℕ
meals_line history named = codes "meals " ++ named.0 ++ codes " " ++ decimal (meals_of named.1 history)

-- the verdict
abbrev pub verdict_text : Verdict → List ℕ
verdict_text Settled = codes "settled"
verdict_text (Missing k) = codes "missing " ++ decimal k
verdict_text (Differs k i) = codes "differs " ++ decimal k ++ codes " " ++ decimal i

-- the lines: how many workers there were, how many calls were made, the meals of each name of the setup, and the verdict
abbrev pub report_lines : ℕ → Names → List Entry → Verdict → List (List ℕ)
report_lines workers names history verdict =
    (codes "workers " ++ decimal workers)
    ∷ (codes "calls " ++ decimal (length history))
    ∷ map (meals_line history) names ++ verdict_text verdict ∷ []

-- the lines, each with its line feed
abbrev pub report_text : ℕ → Names → List Entry → Verdict → List ℕ
report_text workers names history verdict = text_of_lines (report_lines workers names history verdict)
