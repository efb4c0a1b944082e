use Rattle.std.proofs.Common.{◌≡◌, ◌-◌, ◌++◌, take, replicate, sym, ap, ◌∙◌, arith}
use Rattle.std.proofs.lemmas.List.{length-take-le}
use Rattle.dine_lines.proofs.Lanes.{first_lanes}
use Rattle.dine_lines.proofs.name.first_letters.Goals as goal

pub returns : goal.returns
returns c =
    let text = c.args.text.now in
    let len = c.args.len in
    let same : len - 0 ≡ len = omega arith in
    first_lanes 16 0 len text c.requires.len c.requires.text
    ∙ ap (λ n. take n text ++ replicate (16 - n) 0) same
    ∙ ap (λ n. take len text ++ replicate (16 - n) 0) (sym (length-take-le len text (omega (arith, c.requires.len, c.requires.text))))
