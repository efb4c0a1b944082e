use Rattle.std.proofs.Common.{codes, Some}
use Rattle.std.proofs.lemmas.Option.{IfSome_then}
use Rattle.dine_lines.proofs.LineForms.{begins-named}
use Rattle.dine_lines.proofs.usual.cut_state.Goals as goal

pub returns : goal.returns
returns c = IfSome_then c.cut_hinted.result c.cut_hinted.ensures (λ cut begun. begins-named c.args.names.now (codes "state") (Some cut.0) c.args.text.now _ _ c.in_ok-after_state.ensures record { name = begun.name; letters = begun.letters; named = begun.bound; is = begun.is })
