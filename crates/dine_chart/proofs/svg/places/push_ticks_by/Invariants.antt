use Rattle.std.proofs.Common.{◌≡◌, ◌++◌}
use Rattle.dine_chart.specs.Svg.{ticks_to}
use Rattle.dine_chart.proofs.svg.places.push_ticks_by.Given as goal

-- the numbers of the places so far are written
abbrev pub invariant-loop-n : goal.invariant-loop-n
invariant-loop-n l = l.out.items ≡ l.initial.out.items ++ ticks_to l.stride l.picture l.n
