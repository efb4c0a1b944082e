use Rattle.std.proofs.Common.{◌≡◌, [], List}
use Rattle.std.specs.List.{filter}
use Rattle.dine_bars.specs.declared.mark.Mark.{Mark}
use Rattle.dine_bars.proofs.CallerLemmas.{IsOnTheWay}
use Rattle.dine_chart.specs.Gather.{touches}
use Rattle.dine_chart.proofs.gather.keep_of_all.Given as goal

-- of all marks so far those are kept of which something is drawn
abbrev pub invariant-loop-place : goal.invariant-loop-place
invariant-loop-place l =
    record {
      added : List Mark;
      way : IsOnTheWay l.journal.limits l.journal.entries l.place l.drawing added;
      kept : l.kept.items ≡ filter (touches l.window) added;
      empty : l.ended.items ≡ [];
    }
