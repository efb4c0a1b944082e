use Rattle.dine_words.proofs.Spelling.{entry_at-Some, entry_at-text}
use Rattle.dine_words.proofs.law.entries_are_read_by_their_texts.Goals as goal

pub returns-clause-text : goal.returns-clause-text
returns-clause-text c version bytes rest e h = (entry_at-Some version bytes rest e h).1

pub returns-clause-fits : goal.returns-clause-fits
returns-clause-fits c version bytes rest e h = (entry_at-Some version bytes rest e h).0

pub returns-clause-each : goal.returns-clause-each
returns-clause-each c version e rest is ends = entry_at-text version e rest is ends
