use Rattle.dine_forks.proofs.Blocks.{filled, id_has}
use Rattle.dine_forks.specs.declared.lists.block.Part.TheVariants as part
use Rattle.dine_forks.proofs.lists.block.Records.record.Goals as goal

pub at-cell-requires : goal.at-cell-requires
at-cell-requires c =
    let b = c.self.inside.block in
    filled b part.Next c.args.id.number c.place.result c.self.invariant (id_has b c.args.id c.self.invariant (rw (← c.self.view_is) at c.requires)) c.place.ensures
