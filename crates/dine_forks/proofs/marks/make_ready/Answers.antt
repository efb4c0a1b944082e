use Rattle.dine_forks.proofs.Lemmas.{ForkRecord, List, sym, ap, arith, dirt-alike, none-held}
use Rattle.dine_forks.proofs.marks.make_ready.Goals as goal

pub returns-then-lacked-degree-clause-same : goal.returns-then-lacked-degree-clause-same
returns-then-lacked-degree-clause-same c = dirt-alike c.args.lists.now c.write_dirt.new.lists c.args.marks.now c.args.slot c.requires.slot c.requires.marked c.if-marks-slot.true c.write_dirt.ensures

pub returns-else-lacked-degree-clause-same : goal.returns-else-lacked-degree-clause-same
returns-else-lacked-degree-clause-same c =
    let lists = c.args.lists.now in
    let none = none-held lists.slots c.args.slot lists.records c.are_sound.ensures.ends_are_slots (let few = c.if-lacked-degree.false in omega (arith, c.degree.ensures, c.requires.lacked)) in
    dirt-alike lists lists c.args.marks.now c.args.slot c.requires.slot c.requires.marked c.if-marks-slot.true (ap (λ (rs : List ForkRecord). record lists { records = rs }) (sym none))
