use Rattle.std.proofs.Common.{rules}
use Rattle.dine_race.proofs.Binding.{keeps_names_at, some_step_waits}
use Rattle.dine_race.proofs.worker.do_bound_step.Goals as goal

pub returns-clause-names : goal.returns-clause-names
returns-clause-names g c =
    keeps_names_at _ _ c.args.steps.now.items c.args.bound.now.items c.args.place c.index-step.result.now c.requires.still c.requires.bound c.requires.inside c.index-step.ensures c.in_ok-do_step.ensures.done

pub returns-in_err-do_step-clause-stopped : goal.returns-in_err-do_step-clause-stopped
returns-in_err-do_step-clause-stopped g c stopped =
    some_step_waits c.args.runner.now.names c.args.steps.now.items c.args.bound.now.items c.args.place c.index-step.result.now c.requires.bound c.requires.inside c.index-step.ensures (c.in_err-do_step.ensures.stopped (search rules))
