use Rattle.std.proofs.Common.{◌∙◌, rules}
use Rattle.dine_lines.proofs.Padded.{same_halves}
use Rattle.dine_lines.proofs.name.NamePartialEq.eq.Goals as goal

pub returns : goal.returns
returns c =
    let one = c.halves.result in
    let other = c.halves-2.result in
    c.eq.ensures
    ∙ same_halves one.0 one.1 other.0 other.1 (search rules) (search rules) (search rules) (search rules) c.args.self.now c.args.other.now c.halves.ensures.letters c.halves-2.ensures.letters c.halves.ensures.name c.halves-2.ensures.name
