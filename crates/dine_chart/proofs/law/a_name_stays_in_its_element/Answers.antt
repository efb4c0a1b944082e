use Rattle.dine_chart.proofs.Inert.{inert}
use Rattle.dine_chart.proofs.law.a_name_stays_in_its_element.Goals as goal

pub returns : goal.returns
returns c = inert
