use Rattle.dine_forks.proofs.CallerLemmas.{found-used}
use Rattle.dine_forks.proofs.walk.step.Goals as goal

pub record-requires : goal.record-requires
record-requires g c = found-used c.args.at.now.id c.args.lists.now.records c.args.at.now.visited c.requires.can.can.listed.found
