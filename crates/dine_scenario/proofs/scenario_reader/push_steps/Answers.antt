use Rattle.std.proofs.Common.{◌≡◌, ◌+◌, drop, sym, ap, ◌∙◌}
use Rattle.dine_scenario.specs.declared.scenario_fault.ScenarioFault.TheVariants.{Worker}
use Rattle.dine_scenario.specs.Asked.{known_after_any, known_after_step, worker_step}
use Rattle.dine_scenario.specs.Lent.{lent}
use Rattle.dine_scenario.specs.Scenarios.{all_asked}
use Rattle.dine_scenario.proofs.Progress.{read_before}
use Rattle.dine_scenario.proofs.Steps.{all_asked-end, all_asked-more, all_asked-stopped}
use Rattle.dine_scenario.proofs.scenario_reader.push_steps.Goals as goal

pub returns-in-Err : goal.returns-in-Err
returns-in-Err c = λ _.
    let l = c.loop-index in
    l.invariant
    ∙ all_asked-stopped worker_step known_after_step (Worker c.args.worker) c.args.lines.now l.index (l.index + 1) _ l.known l.steps.items c.in-Err.kind c.loop-index-test.true (sym c.read_worker_line.ensures ∙ c.in-Err.is)

pub loop-index-preserved : goal.loop-index-preserved
loop-index-preserved c =
    let l = c.loop-index in
    let learned : c.learn_from.new.self ≡ known_after_step l.known c.in-Ok.step = c.in_ok-learn_from.ensures ∙ ap (known_after_any l.known) c.as_call.ensures in
    let push = c.in_ok-push.ensures.items in
    l.invariant
    ∙ all_asked-more worker_step known_after_step (Worker c.args.worker) c.args.lines.now l.index (l.index + 1) _ l.known c.learn_from.new.self l.steps.items c.in-Ok.step c.loop-index-test.true (sym c.read_worker_line.ensures ∙ c.in-Ok.is) learned
    ∙ ap (λ steps. read_before steps (all_asked worker_step known_after_step (Worker c.args.worker) (l.index + 1 + 1) c.learn_from.new.self (lent (drop (l.index + 1) c.args.lines.now)))) (sym push)

pub returns : goal.returns
returns c =
    let l = c.loop-index in
    l.invariant
    ∙ all_asked-end worker_step known_after_step (Worker c.args.worker) c.args.lines.now l.index (l.index + 1) l.known l.steps.items c.loop-index-test.false
