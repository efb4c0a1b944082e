use Rattle.dine_journal.proofs.MostOvertaken.{most_overtaken-is}
use Rattle.dine_journal.proofs.OvertakenOnce.{overtaken-is}
use Rattle.dine_journal.proofs.law.who_begins_beside_the_hungry_overtakes_them.Goals as goal

pub returns-clause-pair : goal.returns-clause-pair
returns-clause-pair c = overtaken-is

pub returns-clause-most : goal.returns-clause-most
returns-clause-most c = most_overtaken-is
