use Rattle.std.proofs.Common.{codes}
use Rattle.std.proofs.lemmas.Option.{IfSome_then}
use Rattle.dine_lines.proofs.LineForms.{begins-named}
use Rattle.dine_lines.proofs.usual.find_neighbours.Goals as goal

pub returns : goal.returns
returns c = IfSome_then c.cut_name.result c.cut_name.ensures (λ cut begun. begins-named c.args.names.now (codes "neighbours") cut.0 c.args.text.now _ _ c.in_ok-after_neighbours.ensures begun)
