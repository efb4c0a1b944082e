use Rattle.dine_forks.proofs.Lemmas.{rules, has_bits, insert-kept}
use Rattle.dine_forks.proofs.slot_set.SlotSet.insert.Goals as goal

pub index-before-requires : goal.index-before-requires
index-before-requires c = let at = has_bits c.self.inside c.self.view_is c.self.invariant c.args.slot c.requires in search rules

pub index_mut-requires : goal.index_mut-requires
index_mut-requires c = let at = has_bits c.self.inside c.self.view_is c.self.invariant c.args.slot c.requires in search rules

pub index_mut-requires-then-before-eq0 : goal.index_mut-requires-then-before-eq0
index_mut-requires-then-before-eq0 c = let at = has_bits c.self.inside c.self.view_is c.self.invariant c.args.slot c.requires in search rules

pub invariant_of-self : goal.invariant_of-self
invariant_of-self c = insert-kept c.self.inside c.self.view_is c.self.invariant c.args.slot c.requires c.index-before.result.now c.index-before.ensures c.index_mut-then-before-eq0.result.now c.index_mut-then-before-eq0.ensures.value
