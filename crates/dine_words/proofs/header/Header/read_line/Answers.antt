use Rattle.dine_words.proofs.Lines.{header-allowed, header-found, header_without_line_feed, if_none, no_header}
use Rattle.dine_words.proofs.header.Header.read_line.Goals as goal

pub returns-in_err-header-clause-none : goal.returns-in_err-header-clause-none
returns-in_err-header-clause-none c = if_none _ _ (no_header c.args.text.now c.in_err-header.ensures)

pub returns-in_err-rest-clause-none : goal.returns-in_err-rest-clause-none
returns-in_err-rest-clause-none c = if_none _ _ (header_without_line_feed _ c.args.text.now _ _ _ c.in_ok-header.ensures c.in_err-rest.ensures.none)

pub returns-clause-found : goal.returns-clause-found
returns-clause-found c = header-found _ c.args.text.now _ _ c.in_ok-header.header.limits c.in_ok-header.ensures c.in_ok-rest.ensures.found

pub returns-clause-allowed : goal.returns-clause-allowed
returns-clause-allowed c = header-allowed _ c.args.text.now _ c.in_ok-header.header.limits c.in_ok-header.ensures
