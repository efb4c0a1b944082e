use Rattle.dine_race.proofs.Dining.{stays_thinking, stays_hungry, eats}
use Rattle.dine_race.proofs.runner.dine.Goals as goal

pub returns-then-not-is_done : goal.returns-then-not-is_done
returns-then-not-is_done g c =
    stays_thinking _ c.args.task _ _ c.in_ok-act.ensures.done (c.is_done.ensures.refused c.if-not-is_done.true)

pub returns-then-not-is_done-2 : goal.returns-then-not-is_done-2
returns-then-not-is_done-2 g c =
    let begun = c.in_ok-begin_in_turn in
    stays_hungry _ c.args.task _ _ c.in_ok-act.ensures.done (c.is_done.ensures.done c.if-not-is_done.false) _ _ begun.ensures.done begun.ensures.granted (c.is_done-2.ensures.refused c.if-not-is_done-2.true)

pub returns : goal.returns
returns g c =
    let begun = c.in_ok-begin_in_turn in
    eats _ c.args.task _ _ c.in_ok-act.ensures.done (c.is_done.ensures.done c.if-not-is_done.false) _ _ begun.ensures.done begun.ensures.granted (c.is_done-2.ensures.done c.if-not-is_done-2.false) _ _ c.in_ok-act-2.ensures.done
