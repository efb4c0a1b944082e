use Rattle.dine_words.proofs.Lines.{if_none, no_answer, without_line_feed}
use Rattle.dine_words.proofs.entry.Entry.read_answer_line.Goals as goal

pub returns-in_err-reply-clause-none : goal.returns-in_err-reply-clause-none
returns-in_err-reply-clause-none c = if_none _ _ (no_answer c.args.text.now c.in_err-reply.ensures)

pub returns-in_err-rest-clause-none : goal.returns-in_err-rest-clause-none
returns-in_err-rest-clause-none c = if_none _ _ (without_line_feed c.args.text.now _ _ c.in_ok-reply.ensures c.in_err-rest.ensures.none)
