use Rattle.dine_lines.proofs.LineForms.{begins-two}
use Rattle.dine_lines.proofs.usual.cut_pair.Goals as goal

pub returns : goal.returns
returns c =
    begins-two c.args.names.now c.in_ok-call.call _ _ c.args.text.now c.in_ok-call.named.now _ _ c.in_ok-call.ensures c.in_ok-first.ensures c.in_ok-second.ensures
