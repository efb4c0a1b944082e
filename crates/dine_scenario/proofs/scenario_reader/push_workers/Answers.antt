use Rattle.std.proofs.Common.{◌+◌, drop, map, sym, ap, ◌∙◌, arith}
use Rattle.dine_scenario.specs.Forms.{worker_form_plan}
use Rattle.dine_scenario.specs.Plan.{worker_plan}
use Rattle.dine_scenario.specs.Scenarios.{workers_asked}
use Rattle.dine_scenario.proofs.Progress.{read_before}
use Rattle.dine_scenario.proofs.Workers.{Reads-passed, workers_asked-more, workers_asked-stopped}
use Rattle.dine_scenario.proofs.scenario_reader.push_workers.Goals as goal

pub returns-in_err-worker-clause-read : goal.returns-in_err-worker-clause-read
returns-in_err-worker-clause-read c =
    let l = c.loop-index in
    let form = c.index-forms-index in
    Reads-passed _ c.from_residual.result c.in_err-worker.field-0.0 _ c.from_residual.ensures.1
    (λ other. l.invariant.read ∙ workers_asked-stopped c.args.known.now c.args.forms.now l.index form.result l.workers.items c.loop-index-test.true form.is c.in_err-worker.field-0.0 (c.in_err-worker.ensures other))

pub loop-index-preserved : goal.loop-index-preserved
loop-index-preserved c =
    let l = c.loop-index in
    let form = c.index-forms-index in
    let push = c.in_ok-push.ensures.items in
    let left = workers_asked c.args.known.now (l.index + 1) (map worker_form_plan (drop (l.index + 1) c.args.forms.now)) in
    record {
      read =
          l.invariant.read
          ∙ workers_asked-more c.args.known.now c.args.forms.now l.index form.result l.workers.items c.loop-index-test.true form.is c.in_ok-worker.worker c.in_ok-worker.ensures
          ∙ ap (λ workers. read_before (map worker_plan workers) left) (sym push);
      len = (let more = c.in_ok-push.ensures.len in let len = l.invariant.len in omega arith);
    }
