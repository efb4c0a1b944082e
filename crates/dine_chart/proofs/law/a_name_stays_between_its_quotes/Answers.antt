use Rattle.dine_chart.proofs.Inert.{quotable, quotable-dot}
use Rattle.dine_chart.proofs.law.a_name_stays_between_its_quotes.Goals as goal

pub returns-clause-json : goal.returns-clause-json
returns-clause-json c = quotable

pub returns-clause-dot : goal.returns-clause-dot
returns-clause-dot c = quotable-dot
