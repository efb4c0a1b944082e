use Rattle.dine_forks.proofs.Lemmas.{number_at, pointer_block}
use Rattle.dine_forks.specs.declared.lists.block.Part.TheVariants as part
use Rattle.dine_forks.proofs.lists.block.Block.set_at.Goals as goal

pub returns-clause-block : goal.returns-clause-block
returns-clause-block c =
    let b = c.args.self.now in let at = c.args.at in
    pointer_block b part.Next (number_at b.cells.at at.ptr) at c.args.one c.args.pointer c.at_mut-cell.result.now c.set_pointer.new.self c.requires.block c.requires.within.written c.requires.within.lies c.at_mut-cell.ensures.value c.set_pointer.ensures c.requires.pointer
