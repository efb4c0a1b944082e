use Rattle.dine_replay.proofs.Told.{told_all}
use Rattle.dine_replay.proofs.whole_text.check_text.Goals as goal

pub returns-clause-answer : goal.returns-clause-answer
returns-clause-answer c =
    told_all c.args.text.now c.in_ok-replayed.replayed c.in_ok-replayed.ensures.ok.before c.checked.result c.checked.ensures.entries c.checked.ensures.most
