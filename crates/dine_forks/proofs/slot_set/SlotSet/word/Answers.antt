use Rattle.dine_forks.proofs.Lemmas.{rules, has_word}
use Rattle.dine_forks.proofs.slot_set.SlotSet.word.Goals as goal

pub index-requires : goal.index-requires
index-requires c = let at = has_word c.self.inside c.self.view_is c.self.invariant c.args.word c.requires in search rules
