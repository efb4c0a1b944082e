use Rattle.dine_forks.proofs.Lemmas.{◌≡◌, [], ltb, length, true, None, rules, arith, nat_tests, refl, sym, ◌∙◌, blank_node, block_nodes, vacant, get_or-append_seam, length_nodes}
use Rattle.dine_forks.proofs.lists.block.Records.take.Goals as goal

pub returns-then-self : goal.returns-then-self
returns-then-self c =
    let long = length_nodes c.self.inside.block c.self.invariant in let none : c.get.result ≡ None = search rules in
    rw (← c.self.view_is) record { id = grind (arith, nat_tests, long, c.if-self.true, c.get.ensures, none); none = λ e. (refl, refl); some = tt }

pub returns-else-self : goal.returns-else-self
returns-else-self c =
    let b = c.self.inside.block in let nodes = block_nodes b in let long = length_nodes b c.self.invariant in let fits = c.self.invariant.fits in
    let left : ltb (length nodes) b.room ≡ true = grind (arith, nat_tests, long, fits, c.if-self.false) in
    let id : c.give.result ≡ record { number = length nodes } = λ j. record { number = c.give.ensures.id j } in
    let node = get_or-append_seam nodes (blank_node (length nodes)) [] vacant in
    let none : c.get.result ≡ None = search rules in
    rw (← c.self.view_is, c.requires.none (sym c.get.ensures ∙ none), id) record {
      id = rw left refl;
      none = λ e. absurd cc;
      some = rw (left, node) (λ j. record { room = c.give.ensures.room j; nodes = c.give.ensures.nodes j }, refl);
    }
