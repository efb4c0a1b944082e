use Rattle.std.proofs.Common.{refl}
use Rattle.dine_chart.specs.Trace.{giving_event}
use Rattle.dine_chart.proofs.Joining.{both_pieces}
use Rattle.dine_chart.proofs.trace.put_giving.Goals as goal

pub returns : goal.returns
unfolding giving_event
returns c = both_pieces c.args.out.now.items c.put_event.new.out.items c.put_flow_end.new.out.items _ _ (giving_event c.args.turn c.args.meal) c.put_event.ensures.text c.put_flow_end.ensures (rw (c.thread_of.ensures, c.saturating_sub-place.ensures) refl)
