use Rattle.std.proofs.Common.{take, sym, ap, ◌∙◌, refl}
use Rattle.std.proofs.lemmas.Bool.Decides.{Decides-eqb}
use Rattle.std.specs.Int.{to_le_bytes, w64}
use Rattle.dine_lines.proofs.FirstBytes.{same_front}
use Rattle.dine_lines.proofs.usual.begins_with.Goals as goal

pub returns : goal.returns
returns c same =
    let one = to_le_bytes w64 c.args.eight in
    let other = to_le_bytes w64 c.half.result in
    same_front c.args.len c.first_of.result c.first_of-2.result one other c.requires refl refl c.first_of.ensures c.first_of-2.ensures ((Decides-eqb c.first_of.result c.first_of-2.result).0 same)
    ∙ ap (take c.args.len) (sym c.half.ensures)
