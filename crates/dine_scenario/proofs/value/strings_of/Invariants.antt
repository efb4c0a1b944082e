use Rattle.std.proofs.Common.{◌≡◌, drop}
use Rattle.toml.specs.View.{items_view}
use Rattle.dine_scenario.specs.Form.{strings_of}
use Rattle.dine_scenario.specs.Lent.{lent}
use Rattle.dine_scenario.proofs.Progress.{found_before}
use Rattle.dine_scenario.proofs.value.strings_of.Given as goal

-- the lines so far, and then what is left, are all
abbrev pub invariant-loop-value : goal.invariant-loop-value
invariant-loop-value l =
    strings_of (items_view l.values) ≡ found_before (lent l.lines.items) (strings_of (items_view (drop l.value-index l.values)))
