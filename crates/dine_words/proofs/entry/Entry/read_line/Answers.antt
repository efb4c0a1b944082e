use Rattle.dine_words.proofs.Lines.{entry-fits, entry-found, if_none, no_entry, no_line_feed}
use Rattle.dine_words.proofs.entry.Entry.read_line.Goals as goal

pub returns-in_err-entry-clause-none : goal.returns-in_err-entry-clause-none
returns-in_err-entry-clause-none g c = if_none _ _ (no_entry c.args.version c.args.text.now c.in_err-entry.ensures)

pub returns-in_err-rest-clause-none : goal.returns-in_err-rest-clause-none
returns-in_err-rest-clause-none g c = if_none _ _ (no_line_feed c.args.version c.args.text.now _ _ c.in_ok-entry.ensures c.in_err-rest.ensures.none)

pub returns-clause-found : goal.returns-clause-found
returns-clause-found g c = entry-found c.args.version c.args.text.now _ _ _ c.in_ok-entry.ensures c.in_ok-rest.ensures.found

pub returns-clause-fits : goal.returns-clause-fits
returns-clause-fits g c = entry-fits c.args.version c.args.text.now _ _ c.in_ok-entry.ensures
