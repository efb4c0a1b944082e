use Rattle.dine_forks.proofs.Lemmas.{arith, ap, ◌∙◌, below_room, filled, id_has, label_of, named_at, record_block, record_nodes}
use Rattle.dine_forks.specs.declared.lists.block.Part.TheVariants as part
use Rattle.dine_forks.proofs.lists.block.Records.write.Goals as goal

pub place-at-requires-clause-within : goal.place-at-requires-clause-within
place-at-requires-clause-within c = below_room c.self.inside.block c.args.content.id c.self.invariant (rw (← c.self.view_is) at c.requires.within)

pub at_mut-cell-requires : goal.at_mut-cell-requires
at_mut-cell-requires c = filled c.self.inside.block part.Next c.args.content.id.number c.place-at.result c.self.invariant (id_has c.self.inside.block c.args.content.id c.self.invariant (rw (← c.self.view_is) at c.requires.within)) c.place-at.ensures

pub label-cell-requires : goal.label-cell-requires
label-cell-requires c =
    let b = c.self.inside.block in let lt = rw (← c.self.view_is) at c.requires.within in
    let named = named_at b c.args.content.id c.place-at.result c.at_mut-cell.result.now c.self.invariant lt c.place-at.ensures c.at_mut-cell.ensures.value in
    let le = below_room b c.args.content.id c.self.invariant lt in let few = c.self.invariant.few in
    rw named (omega arith)

pub invariant_of-self : goal.invariant_of-self
invariant_of-self c =
    let b = c.self.inside.block in let lt = rw (← c.self.view_is) at c.requires.within in
    let named = named_at b c.args.content.id c.place-at.result c.at_mut-cell.result.now c.self.invariant lt c.place-at.ensures c.at_mut-cell.ensures.value in
    let is = c.label-cell.ensures ∙ ap (λ n. label_of n c.args.content.fork) named in
    (record_block b c.args.content c.place-at.result c.at_mut-cell.result.now c.label-cell.result c.self.invariant lt c.place-at.ensures c.at_mut-cell.ensures.value is).0

pub returns : goal.returns
returns c =
    let b = c.self.inside.block in let lt = rw (← c.self.view_is) at c.requires.within in
    let named = named_at b c.args.content.id c.place-at.result c.at_mut-cell.result.now c.self.invariant lt c.place-at.ensures c.at_mut-cell.ensures.value in
    let is = c.label-cell.ensures ∙ ap (λ n. label_of n c.args.content.fork) named in
    let nodes = record_nodes b c.args.content c.place-at.result c.at_mut-cell.result.now c.label-cell.result c.self.invariant lt c.place-at.ensures c.at_mut-cell.ensures.value is in
    rw (← c.self.view_is) (λ j. record { room = b.room; nodes = nodes j })
