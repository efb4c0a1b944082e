use Rattle.dine_forks.proofs.Lemmas.{forked_nodes, AreForked, lists-forked}
use Rattle.dine_forks.specs.contracts.lists.Lists.{the_view}
use Rattle.dine_forks.proofs.lists.Lists.write.Goals.{After-write_fork}
use Rattle.dine_forks.proofs.lists.Lists.write.Goals as goal

-- the lists with the fork
forked : (c : After-write_fork) → let b = c.self.inside in
    AreForked (the_view b) b.records.room (forked_nodes b.records.nodes c.args.id c.args.fork) b.by_slot.items b.all b.vacant b.signatures.items c.args.id c.args.fork
forked c =
    let b = c.self.inside in
    lists-forked b.records.room b.records.nodes b.by_slot.items b.all b.vacant b.signatures.items c.args.id c.args.fork c.self.invariant.0 c.self.invariant.1 c.self.invariant.2 (rw (← c.self.view_is) at c.requires)

pub invariant_of-self : goal.invariant_of-self
invariant_of-self c =
    let f = forked (goal.at.invariant_of-self c).After-write_fork in
    rw c.write_fork.ensures (f.stored, f.ordered, f.signed)

pub returns : goal.returns
returns c = rw (c.write_fork.ensures, ← c.self.view_is) (forked (goal.at.returns c).After-write_fork).book
