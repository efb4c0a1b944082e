use Rattle.dine_front.proofs.OneHistory.{less_begins, less_begins_history}
use Rattle.dine_front.proofs.law.who_has_seen_less_has_seen_a_beginning.Goals as goal

-- both begin one list
pub returns-clause-passes : goal.returns-clause-passes
returns-clause-passes c = less_begins

pub returns-clause-journal : goal.returns-clause-journal
returns-clause-journal c = less_begins_history
