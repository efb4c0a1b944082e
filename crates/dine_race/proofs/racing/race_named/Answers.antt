use Rattle.std.proofs.Common.{◌∙◌}
use Rattle.dine_race.proofs.Settling.{settles}
use Rattle.dine_race.proofs.racing.race_named.Goals as goal

pub returns-in-Ok-run_all : goal.returns-in-Ok-run_all
returns-in-Ok-run_all g c =
    let closed = c.close-closed.ensures in
    let raced = c.in-Ok-run_all.ensures in
    let o = c.in-Ok.ensures in
    record {
      limits = closed.limits ∙ (o.limits ∙ c.requires.limits);
      legal = closed.history_of_one_thread;
      named = (raced.set_up.calls, raced.set_up.run);
      settled = settles c.args.scenario.now c.in-Ok-run_all.names c.in-Ok-run_all.handed.items c.close-closed.result.journal.entries c.in-Ok.front.passes c.close-closed.result.verdict (o.passes ∙ c.requires.passes) raced closed.verdict closed.sum_of_the_shares;
    }
