use Rattle.std.proofs.Common.{arith}
use Rattle.std.proofs.lemmas.Bool.Decides.{nat_tests}
use Rattle.dine_replay.proofs.Bounds.{heard_within}
use Rattle.dine_replay.proofs.bound.Bound.hear.Goals as goal

pub returns-clause-within : goal.returns-clause-within
returns-clause-within g c =
    let heard = c.in_ok-count.ensures.heard in let counted = heard.counted in let few = c.if-count-self.false in
    heard_within (g.R.Source.remaining c.args.reader.now) (g.R.Source.remaining c.hear_bytes.new.source) heard.hears.bytes c.args.self.now _ heard.hears.consumed (omega arith) (λ at_end. heard.hears.at_end (grind (arith, nat_tests)))
