use Rattle.dine_replay.proofs.Repeating.{named-step}
use Rattle.dine_replay.proofs.made_again.repeat_on.Goals as goal

pub returns : goal.returns
returns g c =
    let found = c.in-Some in
    named-step _ _ _ _ _ c.args.pass c.args.step found.task c.args.text.now found.asked.now found.ensures.found c.repeat.result (rw c.on.ensures at c.repeat.ensures)
