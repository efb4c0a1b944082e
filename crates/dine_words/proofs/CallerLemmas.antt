-- What the proofs of other crates cite of the words and their texts: all of it, by what it is about.

-- numbers, and the bytes that stand for them
pub use Rattle.dine_words.proofs.Numbers.{number_at-Some, number_at-decimal}
-- words of a text
pub use Rattle.dine_words.proofs.Words.{word_at-test}
-- the bytes of a line, and what is read of them
pub use Rattle.dine_words.proofs.Spelling.{bind-Some, entry_answered, entry_at-Some, entry_at-text, entry_unanswered, entry_unasked, nothing, refusal_at-text}
-- the header of a journal
pub use Rattle.dine_words.proofs.Headers.{few_conflicts_of, few_tasks_of, header_at-Some, header_at-text}
-- the call of a usual line
pub use Rattle.dine_words.proofs.UsualLines.{asked_on_a_pass}
-- the line at the front of a text
pub use Rattle.dine_words.proofs.Lines.{answered-fits, answered-found, entry-fits, entry-found, header-found, header-same, header_without_line_feed, line-same, no_entry, no_header, no_line_feed, unanswered, unasked}
