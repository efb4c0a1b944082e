use Rattle.std.proofs.Common.{◌≡◌, ◌++◌, map, take}
use Rattle.dine_words.specs.Texts.{text_of_lines}
use Rattle.dine_race.specs.Report.{meals_line}
use Rattle.dine_race.proofs.report.push_meals.Given as goal

-- the lines of the names so far are appended
abbrev pub invariant-loop-place : goal.invariant-loop-place
invariant-loop-place l =
    l.out.items ≡ l.initial.out.items ++ text_of_lines (map (meals_line l.journal.entries) (take l.place l.names))
