use Rattle.std.proofs.Common.{sym, ◌∙◌}
use Rattle.std.proofs.lemmas.Bool.{or_left}
use Rattle.dine_replay.proofs.Taken.{shorter, taken-next}
use Rattle.dine_replay.proofs.replayed.Replayed.take_in.Goals as goal
use Rattle.dine_replay.proofs.replayed.Replayed.take_in.Goals.{then-is_overtaken, else-is_overtaken}

pub loop-rest-smaller-in-Some : goal.loop-rest-smaller-in-Some
loop-rest-smaller-in-Some g c =
    let found = rw c.in-Some.is at c.in_ok-was_overtaken.ensures.made in
    let made = found c.loop-rest.self.version in
    shorter _ _ _ _ _ made.entry made.again

pub loop-rest-preserved-in-Some : goal.loop-rest-preserved-in-Some
loop-rest-preserved-in-Some g c =
    let found = rw c.in-Some.is at c.in_ok-was_overtaken.ensures.made in
    let made = found c.loop-rest.self.version in
    (taken-next _ _ _ _ _ _ _ _ _ _ _ _ c.loop-rest.invariant.0 made.entry _ _ _ _ made.again made.notes made.tells, c.loop-rest.invariant.1)

pub loop-rest-smaller : goal.loop-rest-smaller
loop-rest-smaller g c = shorter _ _ _ _ _ c.in-Ok.entry c.in-Ok.ensures.ok

pub loop-rest-preserved : goal.loop-rest-preserved
loop-rest-preserved g c =
    let left = rw c.in_default.is at c.in_ok-was_overtaken.ensures.left in
    let again = rw left.table at c.in-Ok.ensures.ok in
    elim c.if-is_overtaken.branch [
      | then-is_overtaken w ↦ (rw w.is_overtaken-is (taken-next _ _ _ _ _ _ _ _ _ _ _ _ c.loop-rest.invariant.0 c.in-Ok.entry _ _ _ _ again (w.if-is_overtaken.true ∙ sym (or_left c.loop-rest.is_overtaken _ w.if-is_overtaken.true)) (λ before was. c.in_ok-visit-in-Ok.ensures before (left.untold before was))), c.loop-rest.invariant.1)
      | else-is_overtaken w ↦ (rw w.is_overtaken-is (taken-next _ _ _ _ _ _ _ _ _ _ _ _ c.loop-rest.invariant.0 c.in-Ok.entry _ _ _ _ again (rw w.if-is_overtaken.false w.overtakes_somebody-is_overtaken.ensures) (λ before was. c.in_ok-visit-in-Ok.ensures before (left.untold before was))), c.loop-rest.invariant.1)
    ]
