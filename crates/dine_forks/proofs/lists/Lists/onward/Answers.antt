use Rattle.dine_forks.proofs.Lemmas.{length, None, ◌∙◌, slot_list, records_of, ids_of, next_in, slot_of_used}
use Rattle.dine_forks.proofs.lists.Lists.onward.Goals as goal

pub returns : goal.returns
returns c =
    let used = rw (← c.self.view_is) at c.requires in
    let nodes = c.self.inside.records.nodes in let lists = c.self.inside.by_slot.items in
    let records = records_of nodes (ids_of nodes c.self.inside.all) in
    let below = slot_of_used (length lists) c.args.slot c.args.id records c.self.invariant.0.kept.sound.ends_are_slots used in
    rw (← c.self.view_is) (c.read.ensures.next ∙ next_in c.args.slot nodes None (slot_list c.args.slot records) c.args.id (c.self.invariant.0.listed c.args.slot below).row used)
