use Rattle.dine_replay.proofs.Told.{told_torn, told_whole}
use Rattle.dine_replay.proofs.read_by_read.answer_of.Goals as goal

pub returns-then-replayed-clause-answer : goal.returns-then-replayed-clause-answer
returns-then-replayed-clause-answer c = λ text p. told_torn text c.args.replayed.now p c.if-replayed.true

pub returns-clause-answer : goal.returns-clause-answer
returns-clause-answer c = λ text p. told_whole text c.args.replayed.now _ p c.if-replayed.false c.checked.ensures.entries c.checked.ensures.most
