use Rattle.std.proofs.Common.{◌≡◌, drop}
use Rattle.dine_chart.specs.Picture.{given_in}
use Rattle.dine_chart.proofs.picture.given_in.Given as goal

-- the rest of the labels gives the same
abbrev pub invariant-loop-label : goal.invariant-loop-label
invariant-loop-label l = given_in (drop l.label-index l.labels) l.task ≡ given_in l.labels l.task
