use Rattle.std.proofs.Common.{refl}
use Rattle.dine_chart.specs.Trace.{bar_event}
use Rattle.dine_chart.proofs.Joining.{both_pieces}
use Rattle.dine_chart.proofs.trace.put_bar.Goals as goal

pub returns : goal.returns
unfolding bar_event
returns c =
    both_pieces c.args.out.now.items c.put_labelled.new.out.items c.put_doing.new.out.items _ _ (bar_event c.args.bar)
    (both_pieces c.args.out.now.items c.put_event.new.out.items c.put_labelled.new.out.items _ _ _ c.put_event.ensures.text c.put_labelled.ensures.text refl)
    c.put_doing.ensures (rw (c.thread_of.ensures, c.saturating_sub.ensures) refl)
