use Rattle.std.proofs.Common.{refl}
use Rattle.dine_race.proofs.Running.{handed_back}
use Rattle.dine_race.proofs.worker.work.Goals as goal

-- the pass of the runner that did all rounds is handed back
pub returns-in-Ok-clause-done : goal.returns-in-Ok-clause-done
returns-in-Ok-clause-done g c =
    handed_back c.args.runner c.do_rounds.new.runner c.args.worker.now.repeat _ c.args.worker.now.steps.items c.into_pass.result refl c.into_pass.ensures c.in-Ok.ensures.done
