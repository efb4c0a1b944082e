use Rattle.std.proofs.Common.{◌≡◌, [], rules, subst}
use Rattle.dine_race.specs.Runners.{HasRun, Runner}
use Rattle.dine_race.specs.Runs.{lines_of_setup}
use Rattle.dine_race.proofs.racing.set_up.Goals as goal

-- it had no names at first
pub returns-clause-run : goal.returns-clause-run
returns-clause-run g c =
    let begun : c.new-runner.result ≡ record { pass = c.args.pass; names = [] } = search rules in
    subst (λ (r : Runner). HasRun r (lines_of_setup c.args.setup.now) c.run_setup.new.runner) begun c.in_ok-run_setup.ensures.run
