use Rattle.std.proofs.Common.{ap, sym, ◌∙◌}
use Rattle.dine_uses.specs.Running.{Scheduler, runs}
use Rattle.dine_uses.proofs.Scheduling.{others_run, runs_if_eats, scheduled-finish, taken_off}
use Rattle.dine_words.specs.declared.task.State.TheVariants.{Eating}
use Rattle.dine_table.proofs.CallerLemmas.{found}
use Rattle.dine_uses.proofs.tick.Scheduler.end.Goals as goal

pub invariant_of-self-2 : goal.invariant_of-self-2
invariant_of-self-2 c =
    let done = c.in_ok-carry_out.ensures in
    scheduled-finish c.self.inside.arbiter.table c.carry_out.new.arbiter.table c.self.inside.running.items c.take_off.new.running.items c.args.task c.self.invariant (done.sound c.self.invariant.sound) done.accepted done.table c.take_off.ensures

pub returns-clause-ended : goal.returns-clause-ended
returns-clause-ended c = taken_off c.self.inside.running.items c.take_off.new.running.items c.args.task c.take_off.ensures

pub returns-clause-others : goal.returns-clause-others
returns-clause-others c u other =
    others_run c.self.inside.running.items c.take_off.new.running.items c.args.task u c.take_off.ensures other ∙ ap (λ (s : Scheduler). runs s.running u) c.self.view_is

-- whoever may finish eats, and whoever eats runs
pub returns-clause-ran : goal.returns-clause-ran
returns-clause-ran c =
    ap (λ (s : Scheduler). runs s.running c.args.task) (sym c.self.view_is)
    ∙ runs_if_eats c.self.inside.arbiter.table c.self.inside.running.items c.args.task c.self.invariant (found Eating _ c.in_ok-carry_out.ensures.accepted)
