use Rattle.std.proofs.Common.{arith, refl}
use Rattle.dine_race.proofs.Running.{has_run_none}
use Rattle.dine_race.proofs.Setups.{set_up_next}
use Rattle.dine_race.proofs.racing.run_setup.Goals as goal

-- no line was run yet
pub loop-line-init : goal.loop-line-init
loop-line-init g c = has_run_none _ _ refl

-- one line more was run
pub loop-line-preserved : goal.loop-line-preserved
loop-line-preserved g c =
    set_up_next _ _ _ c.loop-line.line-index c.args.setup.now c.line-item.result (omega arith) c.line-item.is c.loop-line.invariant c.in_ok-take.ensures.run
