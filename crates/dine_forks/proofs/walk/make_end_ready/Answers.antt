use Rattle.dine_forks.proofs.Lemmas.{◌∙◌, other_end_of_used, end_in, end-is}
use Rattle.dine_forks.proofs.walk.make_end_ready.Goals as goal

pub bounds-marks-at : goal.bounds-marks-at
bounds-marks-at c =
    let at = c.args.at.now in
    rw (c.requires.marked, (end-is at.slot at.visited _ c.requires.found.ends (c.is_first.ensures ∙ c.requires.end)).0) (end_in c.args.lists.now at.id at.visited c.are_sound.ensures c.requires.found.found c.is_first.result)

pub bounds-marks-other : goal.bounds-marks-other
bounds-marks-other c =
    let at = c.args.at.now in
    rw (c.other-other.ensures, c.requires.marked) (other_end_of_used c.args.lists.now.slots at.slot at.id c.args.lists.now.records at.visited c.are_sound.ensures.ends_are_slots c.requires.found.found)
