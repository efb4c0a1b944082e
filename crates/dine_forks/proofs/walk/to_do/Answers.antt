use Rattle.dine_forks.proofs.Lemmas.{sym, ◌∙◌, slot_list, reached-asked, reached-lacked, walked-all}
use Rattle.dine_forks.proofs.walk.to_do.Goals as goal

pub returns-then-owes : goal.returns-then-owes
returns-then-owes c = rw c.if-owes.true (c.degree.ensures ∙ sym (walked-all c.args.reach c.args.slot (slot_list c.args.slot c.args.lists.now.records)))

pub returns-in-Lacked : goal.returns-in-Lacked
returns-in-Lacked c = let lists = c.args.lists.now in rw (c.if-owes.false, c.in-Lacked.is, c.requires.count) (sym (reached-lacked lists.slots c.args.slot lists.records c.are_sound.ensures.ends_are_slots))

pub returns-in-Asked : goal.returns-in-Asked
returns-in-Asked c = let lists = c.args.lists.now in rw (c.if-owes.false, c.in-Asked.is, c.requires.count) (sym (reached-asked lists.slots c.args.slot lists.records c.are_sound.ensures.ends_are_slots))

pub returns-in-All : goal.returns-in-All
returns-in-All c = rw (c.if-owes.false, c.in-All.is) (c.degree-in-All.ensures ∙ sym (walked-all c.args.reach c.args.slot (slot_list c.args.slot c.args.lists.now.records)))
