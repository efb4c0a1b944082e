use Rattle.dine_forks.proofs.Lemmas.{ForkRecord, ap, ◌∙◌, is_reached, filled, id_has, record_is}
use Rattle.dine_forks.specs.declared.lists.block.Part.TheVariants as part
use Rattle.dine_forks.proofs.lists.block.Records.is_reached.Goals as goal

pub at-cell-requires : goal.at-cell-requires
at-cell-requires c =
    let b = c.self.inside.block in
    filled b part.Next c.args.id.number c.place.result c.self.invariant (id_has b c.args.id c.self.invariant (rw (← c.self.view_is) at c.requires)) c.place.ensures

pub returns : goal.returns
returns c =
    let b = c.self.inside.block in
    rw (← c.self.view_is) (c.is_reached.ensures ∙ ap (λ (r : ForkRecord). is_reached c.args.reach c.args.first r.fork) (record_is b c.args.id c.place.result c.at-cell.result.now c.self.invariant (rw (← c.self.view_is) at c.requires) c.place.ensures c.at-cell.ensures))
