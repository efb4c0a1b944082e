use Rattle.std.proofs.Common.{ap, ◌∙◌}
use Rattle.dine_bars.specs.Marks.{opening_drawn}
use Rattle.dine_bars.proofs.drawing.draw_into.Goals as goal

pub take_in_all-requires-clause-opened : goal.take_in_all-requires-clause-opened
take_in_all-requires-clause-opened c = c.in_ok-drawing.ensures ∙ ap opening_drawn c.limits.ensures
