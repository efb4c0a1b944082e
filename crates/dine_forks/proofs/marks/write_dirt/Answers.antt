use Rattle.dine_forks.proofs.Lemmas.{length, refl, ap, ◌∙◌, arith, book_with_fork, own_dirtied_at, own_dirtied_fork, own-dirt, at-record, changing-on, changing-start}
use Rattle.dine_forks.proofs.marks.write_dirt.Goals as goal

pub loop-next-init : goal.loop-next-init
loop-next-init c = changing-start c.args.slot (own_dirtied_fork c.args.slot) (own_dirtied_at c.args.slot) c.first_of-next.result c.args.lists.now c.first_of-next.ensures.sound.each_id_once c.first_of-next.ensures.first refl

pub visit-visit-requires : goal.visit-visit-requires
visit-visit-requires c = let (r, v) = at-record c.args.slot c.in-Some.id c.loop-next.next c.loop-next.lists.records c.in-Some.is c.loop-next.invariant.walk in v.listed

pub write-requires : goal.write-requires
write-requires c = let (r, v) = at-record c.args.slot c.in-Some.id c.loop-next.next c.loop-next.lists.records c.in-Some.is c.loop-next.invariant.walk in v.used

pub loop-next-smaller : goal.loop-next-smaller
loop-next-smaller c =
    let written = c.write.ensures ∙ ap (λ f. book_with_fork c.in-Some.id f c.loop-next.lists) (rw c.holder.ensures (own-dirt c.args.slot c.visit-visit.result.record)) in
    let shorter = ap length (changing-on c.args.slot (own_dirtied_fork c.args.slot) (own_dirtied_at c.args.slot) c.in-Some.id c.loop-next.next _ c.loop-next.lists _ _ _ c.loop-next.invariant c.in-Some.is c.visit-visit.ensures.visited.found written c.visit-visit.ensures.next).1 in
    omega arith

pub loop-next-preserved : goal.loop-next-preserved
loop-next-preserved c =
    let written = c.write.ensures ∙ ap (λ f. book_with_fork c.in-Some.id f c.loop-next.lists) (rw c.holder.ensures (own-dirt c.args.slot c.visit-visit.result.record)) in
    (changing-on c.args.slot (own_dirtied_fork c.args.slot) (own_dirtied_at c.args.slot) c.in-Some.id c.loop-next.next _ c.loop-next.lists _ _ _ c.loop-next.invariant c.in-Some.is c.visit-visit.ensures.visited.found written c.visit-visit.ensures.next).0
