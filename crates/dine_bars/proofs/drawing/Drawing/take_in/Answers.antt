use Rattle.dine_bars.proofs.Told.{told_later}
use Rattle.dine_bars.proofs.drawing.Drawing.take_in.Goals as goal

pub carry_out-requires-clause-told : goal.carry_out-requires-clause-told
carry_out-requires-clause-told c = told_later c.self.inside.arbiter.table c.self.inside.place c.self.inside.begun.items c.self.invariant.1
