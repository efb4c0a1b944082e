use Rattle.dine_words.proofs.Headers.{header_at-Some, header_at-text}
use Rattle.dine_words.proofs.law.headers_are_read_by_their_texts.Goals as goal

pub returns-clause-text : goal.returns-clause-text
returns-clause-text c bytes rest version tasks conflicts h = (header_at-Some bytes rest version tasks conflicts h).text

pub returns-clause-range : goal.returns-clause-range
returns-clause-range c bytes rest version tasks conflicts h =
    let at = header_at-Some bytes rest version tasks conflicts h in
    (at.some_tasks, at.few_tasks, at.some_conflicts, at.few_conflicts)

pub returns-clause-each : goal.returns-clause-each
returns-clause-each c version limits rest allowed ends = header_at-text version limits rest allowed ends
