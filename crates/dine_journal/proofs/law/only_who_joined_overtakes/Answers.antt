use Rattle.dine_journal.proofs.MostOvertaken.{overtaken-another, overtaken-joined, overtaken-le-most}
use Rattle.dine_journal.proofs.law.only_who_joined_overtakes.Goals as goal

pub returns-clause-greatest : goal.returns-clause-greatest
returns-clause-greatest c = overtaken-le-most

pub returns-clause-joined : goal.returns-clause-joined
returns-clause-joined c = overtaken-joined

pub returns-clause-another : goal.returns-clause-another
returns-clause-another c = overtaken-another
