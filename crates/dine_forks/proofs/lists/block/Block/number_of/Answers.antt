use Rattle.dine_forks.proofs.Lemmas.{number_at, is_cell}
use Rattle.dine_forks.specs.declared.lists.block.Part.TheVariants as part
use Rattle.dine_forks.proofs.lists.block.Block.number_of.Goals as goal

pub returns : goal.returns
returns c =
    let b = c.args.self.now in let i = number_at b.cells.at c.args.place.ptr in
    (is_cell b part.Next i c.at.result.now c.requires.block c.requires.within.written c.at.ensures).named
