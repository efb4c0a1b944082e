use Rattle.dine_bars.proofs.Entries.{all-exactly}
use Rattle.dine_bars.proofs.drawing.draw.Goals as goal

pub returns-clause-exactly : goal.returns-clause-exactly
returns-clause-exactly c = let j = c.args.journal.now in all-exactly j.limits j.entries c.draw_into.new.marks.items c.in_ok-draw_into.ensures
