use Rattle.dine_forks.proofs.Blocks.{pointer_block}
use Rattle.dine_forks.proofs.lists.block.Block.set_pointer.Goals as goal

pub returns-clause-block : goal.returns-clause-block
returns-clause-block c = pointer_block c.args.self.now c.args.part c.args.number c.place-at.result c.args.one c.args.pointer c.at_mut-cell.result.now c.set_pointer.new.self c.requires.block c.requires.written c.place-at.ensures c.at_mut-cell.ensures.value c.set_pointer.ensures c.requires.within
