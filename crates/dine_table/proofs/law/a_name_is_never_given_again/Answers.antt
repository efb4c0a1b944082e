use Rattle.std.proofs.Common.{◌∷◌, ap, sym, ◌∙◌}
use Rattle.dine_table.specs.Table.{opening_table}
use Rattle.dine_table.specs.Calls.{newcomer}
use Rattle.dine_table.specs.History.{table_after}
use Rattle.dine_table.proofs.Histories.{table_from-split}
use Rattle.dine_table.proofs.Names.{given_once, newcomer_not_present, newcomers_differ}
use Rattle.dine_table.proofs.law.a_name_is_never_given_again.Goals as goal

pub returns-clause-not_present : goal.returns-clause-not_present
returns-clause-not_present c t sound = newcomer_not_present t sound

pub returns-clause-given_once : goal.returns-clause-given_once
returns-clause-given_once c limits history legal = given_once limits history legal

pub returns-clause-newcomers_differ : goal.returns-clause-newcomers_differ
returns-clause-newcomers_differ c limits before between e join ok same = newcomers_differ (table_after limits before) e.call between join ok (ap newcomer (sym (table_from-split (opening_table limits) before (e ∷ between))) ∙ same)
