use Rattle.dine_forks.proofs.Lemmas.{rules, has_bits, remove-emptied}
use Rattle.dine_forks.proofs.slot_set.SlotSet.remove.Goals as goal

pub index-requires : goal.index-requires
index-requires c = let at = has_bits c.self.inside c.self.view_is c.self.invariant c.args.slot c.requires in search rules

pub index_mut-requires : goal.index_mut-requires
index_mut-requires c = let at = has_bits c.self.inside c.self.view_is c.self.invariant c.args.slot c.requires in search rules

pub index_mut-requires-then-left-eq0 : goal.index_mut-requires-then-left-eq0
index_mut-requires-then-left-eq0 c = let at = has_bits c.self.inside c.self.view_is c.self.invariant c.args.slot c.requires in search rules

pub invariant_of-self : goal.invariant_of-self
invariant_of-self c = remove-emptied c.self.inside c.self.view_is c.self.invariant c.args.slot c.requires c.index.result.now c.index.ensures c.index_mut-then-left-eq0.result.now c.index_mut-then-left-eq0.ensures.value c.if-left-eq0.true
