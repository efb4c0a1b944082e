use Rattle.std.proofs.Common.{[], ◌∷◌, ◌++◌, ◌∙◌, ap, rules}
use Rattle.dine_race.proofs.AllWorks.{handed_in, left_after, waits_among}
use Rattle.dine_race.proofs.threads.end_all.Goals as goal

pub loop-at_work-preserved : goal.loop-at_work-preserved
loop-at_work-preserved g c = record {
  done = handed_in c.loop-at_work.yielded c.loop-at_work.passes.items c.push_reserved.new.self.items c.in-Some.at_work c.in_ok-end.field-0 c.loop-at_work.invariant.done c.in_ok-end.ensures.done (c.push_reserved.ensures.items ∙ ap (λ xs. xs ++ c.in_ok-end.field-0 ∷ []) c.in_ok-reserve.ensures.items);
  left = left_after c.args.all.items c.loop-at_work.yielded c.in-Some.at_work _ _ c.loop-at_work.invariant.left c.in-Some.ensures.steps.0;
}

pub returns-in_err-end-clause-stopped : goal.returns-in_err-end-clause-stopped
returns-in_err-end-clause-stopped g c stopped =
    waits_among c.args.all.items c.loop-at_work.yielded c.in-Some.at_work _ _ c.loop-at_work.invariant.left c.in-Some.ensures.steps.0 (c.in_err-end.ensures.stopped (search rules))
