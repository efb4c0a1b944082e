use Rattle.std.proofs.Common.{[], sym}
use Rattle.dine_streams.proofs.Feeds.{none-nowhere, split-at, split-begun, split-lines}
use Rattle.dine_streams.proofs.Pieces.{begun-on}
use Rattle.dine_streams.proofs.buffer.whole_len.Goals as goal

pub returns-in-Some-clause-lines : goal.returns-in-Some-clause-lines
returns-in-Some-clause-lines c = split-lines c.args.text.now _ (split-at c.in-Some.last c.args.text.now c.in-Some.ensures)

pub returns-in-Some-clause-ended : goal.returns-in-Some-clause-ended
returns-in-Some-clause-ended c = (split-at c.in-Some.last c.args.text.now c.in-Some.ensures).ended

pub returns-in-Some-clause-begun : goal.returns-in-Some-clause-begun
returns-in-Some-clause-begun c = split-begun c.args.text.now _ (split-at c.in-Some.last c.args.text.now c.in-Some.ensures)

pub returns-in-Some-clause-none : goal.returns-in-Some-clause-none
returns-in-Some-clause-none c = (split-at c.in-Some.last c.args.text.now c.in-Some.ensures).none

pub returns-in-None-clause-lines : goal.returns-in-None-clause-lines
returns-in-None-clause-lines c = sym (none-nowhere [] c.args.text.now c.in-None.ensures)

pub returns-in-None-clause-begun : goal.returns-in-None-clause-begun
returns-in-None-clause-begun c = begun-on [] c.args.text.now (none-nowhere [] c.args.text.now c.in-None.ensures)

pub returns-in-None-clause-none : goal.returns-in-None-clause-none
returns-in-None-clause-none c = none-nowhere [] c.args.text.now c.in-None.ensures
