use Rattle.std.proofs.Common.{refl}
use Rattle.dine_chart.specs.Trace.{flow_end}
use Rattle.dine_chart.proofs.Joining.{both_pieces}
use Rattle.dine_chart.proofs.trace.put_flow_end.Goals as goal

pub returns : goal.returns
unfolding flow_end
returns c = both_pieces c.args.out.now.items c.put_labelled.new.out.items c.put_text.new.out.items _ _ (flow_end c.args.number) c.put_labelled.ensures.text c.put_text.ensures.text refl
