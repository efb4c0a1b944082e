use Rattle.std.proofs.Common.{refl}
use Rattle.dine_race.proofs.Binding.{did_call}
use Rattle.dine_race.proofs.runner.Runner.call.Goals as goal

pub returns-clause-done : goal.returns-clause-done
returns-clause-done g c = did_call _ _ _ c.args.call c.in_ok-act.field-0 c.self.view_is c.in_ok-act.ensures.done refl
