use Rattle.std.proofs.Common.{refl}
use Rattle.dine_chart.specs.Trace.{naming_event}
use Rattle.dine_chart.proofs.Joining.{four_pieces}
use Rattle.dine_chart.proofs.trace.push_naming.Goals as goal

pub returns : goal.returns
unfolding naming_event
returns c = four_pieces c.push-2.result c.args.out.now.items c.push_labelled.new.out.items c.push.new.out.items c.push_name_in.new.out.items c.push-2.new.out.items _ _ _ _ (naming_event c.args.labels.now c.args.task) c.in_ok-push_labelled.ensures.ok c.in_ok-push.ensures.ok c.in_ok-push_name_in.ensures.ok c.push-2.ensures.ok (rw (c.thread_of.ensures, c.given_in.ensures) refl)
