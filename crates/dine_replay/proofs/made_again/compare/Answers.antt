use Rattle.std.proofs.Common.{refl}
use Rattle.dine_replay.proofs.made_again.compare.Goals as goal

pub returns-in_default-clause-err : goal.returns-in_default-clause-err
returns-in_default-clause-err c = (c.in_default.ensures.none, refl)

pub returns-then-not-is_told-clause-err : goal.returns-then-not-is_told-clause-err
returns-then-not-is_told-clause-err c =
    (c.in-Some.told, _, c.in-Some.ensures.found, c.is_told.ensures.other c.if-not-is_told.true, refl, refl)

pub returns-clause-told : goal.returns-clause-told
returns-clause-told c =
    let same = c.is_told.ensures.same c.if-not-is_told.false in
    rw same c.in-Some.ensures.found
