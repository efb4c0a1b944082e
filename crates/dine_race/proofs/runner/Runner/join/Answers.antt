use Rattle.dine_race.proofs.Binding.{did_join}
use Rattle.dine_race.proofs.runner.Runner.join.Goals as goal

pub returns-clause-done : goal.returns-clause-done
returns-clause-done g c =
    did_join _ _ _ c.args.name c.in_ok-reply.field-0 c.self.view_is c.in_ok-reply.ensures.done c.in_ok-take_name.ensures
