use Rattle.std.proofs.Common.{◌≡◌, ◌+◌, length, ap, sym, ◌∙◌, arith}
use Rattle.dine_journal.specs.Told.{board_after}
use Rattle.dine_front.proofs.Absorbing.{taken_in}
use Rattle.dine_front.proofs.shown.ShownAbsorbEvent.absorb_first.Goals as goal

-- the board is that of the longer list, which the new sight is a copy of
pub invariant_of-self : goal.invariant_of-self
invariant_of-self g c =
    let mine = c.self.inside.sight in
    let longer = c.event.inside.sight in
    let limits = g.J.Naming.limits in
    let len : length longer ≡ length mine + 1 = omega (arith, c.len-mine.ensures.length, c.len-new.ensures.length, c.if-mine-new.true, c.if-new-mine-eq1.true) in
    c.take_in.ensures ∙ (taken_in limits mine longer c.self.inside.board c.event.inside.told c.event.invariant c.begins.ensures len c.self.invariant ∙ sym (ap (board_after limits) c.again.ensures))
