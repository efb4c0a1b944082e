use Rattle.std.proofs.Common.{List, [], ◌∷◌, ◌++◌, ◌∙◌, ap, sym, arith, length-append}
use Rattle.dine_front.specs.Passes.{Pass}
use Rattle.dine_race.specs.Works.{works_with}
use Rattle.dine_race.proofs.AllWorks.{left_after, none_left, some_worker_waits, started_next}
use Rattle.dine_race.proofs.threads.start_and_end.Goals as goal

pub loop-pass-preserved : goal.loop-pass-preserved
loop-pass-preserved g c =
    let so_far = c.loop-pass.invariant in
    let next = c.in-Some.ensures.steps.1 in
    let work = c.in_ok-start.field-0 in
    let this = c.in_ok-start.ensures in
    record {
      started = started_next c.args.names.now c.loop-pass.yielded c.args.workers.now c.loop-pass.at_work.items c.push_reserved.new.self.items c.in-Some.pass c.len.result c.index-workers-len.result work (omega (arith, so_far.left, next, c.len.ensures)) (c.len.ensures ∙ so_far.len) c.index-workers-len.is this so_far.started (c.push_reserved.ensures.items ∙ ap (λ xs. xs ++ work ∷ []) c.in_ok-reserve.ensures.items);
      len = omega (arith, so_far.len, c.push_reserved.ensures.len, length-append c.loop-pass.yielded (c.in-Some.pass ∷ []));
      whole = left_after c.args.passes.items c.loop-pass.yielded c.in-Some.pass _ _ so_far.whole c.in-Some.ensures.steps.0;
      left = omega (arith, so_far.left, next, c.push_reserved.ensures.len);
    }

pub returns-clause-stopped : goal.returns-clause-stopped
returns-clause-stopped g c stopped =
    let whole = none_left c.args.passes.items c.loop-pass.yielded _ c.loop-pass.invariant.whole (sym c.loop-pass.pass-iterator.rest.ok.0 ∙ c.in-None.ensures.steps.0) in
    let started = c.loop-pass.invariant.started ∙ ap (λ (passes : List Pass). works_with c.args.names.now passes c.args.workers.now) (sym whole) in
    some_worker_waits c.args.names.now c.args.passes.items c.args.workers.now c.loop-pass.at_work.items started (c.end_all.ensures.stopped stopped)
