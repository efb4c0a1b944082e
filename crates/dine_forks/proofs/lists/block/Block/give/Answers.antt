use Rattle.dine_forks.proofs.Lemmas.{get_or-set_other, length-set, AreCells, AreLeft, Cell, InBlock, List, None, Option, Ptr, Some, ap, arith, length, set, subst, sym, ◌≡◌, ◌+◌, ◌∙◌, blank_node, block_nodes, map, node_in, vacant_cell, ◌++◌, ◌∷◌, [], range_with_len, given-cells, given-left, given-nodes, length-three, length_nodes, with_three}
use Rattle.dine_forks.specs.declared.lists.block.Part.TheVariants as part
use Rattle.dine_forks.proofs.lists.block.Block.give.Goals.{After-write-3}
use Rattle.dine_forks.proofs.lists.block.Block.give.Goals as goal

-- the cells once all three are written
slots : (c : After-write-3) → let b = c.args.self.now in c.write-3.new.self.slots ≡ with_three b.room b.cells.slots b.given (vacant_cell c.place.result b.given)
slots c =
    let b = c.args.self.now in
    c.write-3.ensures.1 ∙ (λ j. set ((c.write-2.ensures.1 ∙ (λ k. set (c.write.ensures.1 k) (b.room + 1 + b.given) (Some c.vacant-vacant.result))) j) (b.room + 1 + (b.room + 1) + b.given) (Some c.vacant-vacant.result))
    ∙ ap (with_three b.room b.cells.slots b.given) c.vacant-vacant.ensures

-- they lie where they did
same : (c : After-write-3) → c.write-3.new.self.at ≡ c.args.self.now.cells.at
same c = c.write-3.ensures.0 ∙ c.write-2.ensures.0 ∙ c.write.ensures.0

pub write-requires-2 : goal.write-requires-2
write-requires-2 c =
    let b = c.args.self.now in let h = c.requires.block in
    grind (arith, length-set b.cells.slots b.given (Some c.vacant-vacant.result), get_or-set_other b.cells.slots b.given (b.room + 1 + b.given) (Some c.vacant-vacant.result) None, h.left part.Previous b.given, h.places, h.owned)

pub write-requires-3 : goal.write-requires-3
write-requires-3 c =
    let b = c.args.self.now in let h = c.requires.block in
    grind (arith, length-set, get_or-set_other, h.left part.All b.given, h.places, h.owned)

pub returns-clause-block : goal.returns-clause-block
returns-clause-block c =
    let b = c.args.self.now in let h = c.requires.block in let lt = c.requires.left in
    let all = (goal.at.returns-clause-block c).After-write-3 in let at = same all in let is = slots all in
    let cells = subst (λ (k : Ptr × List (Option Cell)). AreCells k.0 b.room (b.given + 1) k.1) (λ j. (sym at j, sym is j)) (given-cells b.cells.at c.place.result b.room b.given b.cells.slots h.begins h.few c.place.ensures lt h.places h.cells) in
    let left = subst (AreLeft b.room (b.given + 1)) (sym is) (given-left b.cells.at c.place.result b.room b.given b.cells.slots h.begins h.few c.place.ensures lt h.places h.left) in
    record { owned = (at ∙ h.owned.0, h.owned.1, h.owned.2, h.owned.3); begins = subst InBlock (sym at) h.begins; places = ap length is ∙ length-three b.room b.cells.slots h.places b.given (omega arith) (vacant_cell c.place.result b.given); few = h.few; fits = omega arith; cells = cells; left = left }

pub returns-clause-id : goal.returns-clause-id
returns-clause-id c = sym (length_nodes c.args.self.now c.requires.block)

pub returns-clause-nodes : goal.returns-clause-nodes
returns-clause-nodes c =
    let b = c.args.self.now in let h = c.requires.block in let lt = c.requires.left in
    let all = (goal.at.returns-clause-nodes c).After-write-3 in
    (λ j. map (node_in (same all j) b.room (slots all j)) (range_with_len 0 (b.given + 1))) ∙ given-nodes b.cells.at c.place.result b.room b.given b.cells.slots h.begins h.few c.place.ensures lt h.places
    ∙ ap (λ n. block_nodes b ++ blank_node n ∷ []) (sym (length_nodes b h))
