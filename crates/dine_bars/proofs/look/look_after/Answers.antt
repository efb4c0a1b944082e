use Rattle.dine_bars.proofs.CalmAfter.{looks_after_begin}
use Rattle.dine_bars.proofs.look.look_after.Goals as goal

pub returns-in-Begin-clause-begun : goal.returns-in-Begin-clause-begun
returns-in-Begin-clause-begun c = (looks_after_begin c.args.call c.args.place c.args.arbiter.now.table c.in-Begin.task c.in-Begin.is c.args.begun.now.items c.look.new.begun.items c.args.marks.now.items c.look.new.marks.items c.requires.calm c.look.ensures.looked).begun

pub returns-in-Begin-clause-marks : goal.returns-in-Begin-clause-marks
returns-in-Begin-clause-marks c = (looks_after_begin c.args.call c.args.place c.args.arbiter.now.table c.in-Begin.task c.in-Begin.is c.args.begun.now.items c.look.new.begun.items c.args.marks.now.items c.look.new.marks.items c.requires.calm c.look.ensures.looked).marks
