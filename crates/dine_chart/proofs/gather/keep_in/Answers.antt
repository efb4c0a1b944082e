use Rattle.std.proofs.Common.{ap, ◌∙◌}
use Rattle.dine_bars.specs.Marks.{opening_drawn}
use Rattle.dine_chart.proofs.gather.keep_in.Goals as goal

pub keep_of_all-requires-clause-opened : goal.keep_of_all-requires-clause-opened
keep_of_all-requires-clause-opened c = c.in_ok-drawing.ensures ∙ ap opening_drawn c.limits.ensures
