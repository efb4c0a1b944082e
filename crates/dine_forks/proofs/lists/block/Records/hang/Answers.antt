use Rattle.dine_forks.proofs.Lemmas.{Block, IsSameBlock, ◌≡◌, ◌<◌, ap, arith, false, id_below, linked_id, None, number_at, Option, put_link, put_links_in, put_next_in, Some, subst, sym, true, ℕ, ◌∙◌, block_nodes, eqb, hung_nodes_in, node_at, all_both, below-number_or, id_below-past, id_below_is, length_nodes, linked_is, number_is, same_both, slot_both}
use Rattle.dine_forks.specs.declared.lists.block.Part.TheVariants as part
use Rattle.dine_forks.proofs.lists.block.Records.hang.Goals.{After-place-nowhere}
use Rattle.dine_forks.proofs.lists.block.Records.hang.Goals as goal

-- what the three places stand for
record Places (c : After-place-nowhere) : Type 0 where
  to_this : let b = c.self.inside.block in linked_id b.cells.at b.room c.place-place.result ≡ Some c.args.id
  to_back : let b = c.self.inside.block in linked_id b.cells.at b.room c.place-back.result ≡ c.args.last
  to_none : let b = c.self.inside.block in linked_id b.cells.at b.room c.place-nowhere.result ≡ None

-- so they do
places : (c : After-place-nowhere) → Places c
places c =
    let b = c.self.inside.block in let h = c.self.invariant in let can = rw (← c.self.view_is) at c.requires in
    let number = c.number_or-behind.ensures in let long = length_nodes b h in let fits = h.fits in let lt = can.within in
    record {
      to_this = linked_is b c.args.id.number c.place-place.result h c.place-place.ensures ∙ id_below_is b.room c.args.id.number (omega arith);
      to_back = linked_is b c.number_or-behind.result c.place-back.result h c.place-back.ensures ∙ ap (id_below b.room) number ∙ below-number_or b c.args.last h can.behind;
      to_none = linked_is b b.room c.place-nowhere.result h c.place-nowhere.ensures ∙ id_below-past b.room b.room (omega arith);
    }

-- once the record has its neighbours, the one before it goes on to it
hung : (c : After-place-nowhere) (n s : Block) (list : Option ℕ) → IsSameBlock c.self.inside.block n → block_nodes n ≡ put_links_in list c.args.id record { previous = c.args.last; next = None } (block_nodes c.self.inside.block)
    → block_nodes s ≡ put_next_in list (linked_id n.cells.at n.room c.place-back.result) (linked_id n.cells.at n.room c.place-place.result) (block_nodes n) → block_nodes s ≡ hung_nodes_in list c.args.id c.args.last (block_nodes c.self.inside.block)
hung c n s list same linked next =
    let p = places c in
    next ∙ (λ j. put_next_in list (linked_id (same.1 j) (same.2 j) c.place-back.result) (linked_id (same.1 j) (same.2 j) c.place-place.result) (linked j))
    ∙ (λ j. put_next_in list (p.to_back j) (p.to_this j) (put_links_in list c.args.id record { previous = c.args.last; next = None } (block_nodes c.self.inside.block)))

pub returns-in-Some : goal.returns-in-Some
returns-in-Some c =
    let b = c.self.inside.block in let h = c.self.invariant in let can = rw (← c.self.view_is) at c.requires in let one = c.is_first-one.result in
    let at = (goal.at.returns-in-Some c).After-place-nowhere in let p = places at in
    let long = length_nodes b h in let fits = h.fits in let lt = can.within in
    let same = c.set_pointer.ensures.block in let both = same_both b c.set_pointer.new.self c.set_at.new.self same c.set_at.ensures.block in
    let number : number_at b.cells.at c.place-place.result.ptr ≡ c.args.id.number = number_is b.cells.at c.args.id.number c.place-place.result h.begins c.place-place.ensures in
    let below : c.args.id.number < b.given = omega arith in
    let first : one ≡ eqb c.in-Some.slot (node_at (block_nodes b) c.args.id).content.first =
    c.is_first-one.ensures (subst (λ (k : ℕ). k < b.given) (sym number) below) ∙ ap (λ (k : ℕ). eqb c.in-Some.slot (node_at (block_nodes b) record { number = k }).content.first) number in
    let this : id_below b.room c.args.id.number ≡ Some c.args.id = id_below_is b.room c.args.id.number (omega arith) in
    let linked =
    c.set_at.ensures.nodes ∙ (λ j. put_link part.Next one (linked_id (same.1 j) (same.2 j) c.place-place.result) (linked_id (same.1 j) (same.2 j) c.place-nowhere.result) (c.set_pointer.ensures.nodes j))
    ∙ (λ j. put_link part.Next one (p.to_this j) (p.to_none j) (put_link part.Previous one (this j) (p.to_back j) (block_nodes b))) ∙ slot_both c.in-Some.slot one c.args.id c.args.last None (block_nodes b) lt first in
    let all = hung at c.set_at.new.self c.set_next.new.self (Some c.in-Some.slot) both linked c.set_next.ensures.nodes in
    rw (← c.self.view_is, c.in-Some.is) (λ j. record { room = (c.set_next.ensures.block.2 ∙ both.2) j; nodes = all j })

pub returns-in-None : goal.returns-in-None
returns-in-None c =
    let b = c.self.inside.block in let h = c.self.invariant in let can = rw (← c.self.view_is) at c.requires in
    let at = (goal.at.returns-in-None c).After-place-nowhere in let p = places at in
    let long = length_nodes b h in let fits = h.fits in let lt = can.within in
    let same = c.set_pointer-in-None.ensures.block in let both = same_both b c.set_pointer-in-None.new.self c.set_pointer-in-None-2.new.self same c.set_pointer-in-None-2.ensures.block in
    let this : id_below b.room c.args.id.number ≡ Some c.args.id = id_below_is b.room c.args.id.number (omega arith) in
    let linked =
    c.set_pointer-in-None-2.ensures.nodes ∙ (λ j. put_link part.All false (id_below (same.2 j) c.args.id.number) (linked_id (same.1 j) (same.2 j) c.place-nowhere.result) (c.set_pointer-in-None.ensures.nodes j))
    ∙ (λ j. put_link part.All false (this j) (p.to_none j) (put_link part.All true (this j) (p.to_back j) (block_nodes b))) ∙ all_both c.args.id c.args.last None (block_nodes b) lt in
    let all = hung at c.set_pointer-in-None-2.new.self c.set_next-in-None.new.self None both linked (rw c.in-None.is at c.set_next-in-None.ensures.nodes) in
    rw (← c.self.view_is, c.in-None.is) (λ j. record { room = (c.set_next-in-None.ensures.block.2 ∙ both.2) j; nodes = all j })
