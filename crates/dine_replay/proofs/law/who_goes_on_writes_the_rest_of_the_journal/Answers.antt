use Rattle.std.proofs.Common.{sym, ap, ◌∙◌, subst}
use Rattle.dine_table.specs.Table.{Table, opening_table}
use Rattle.dine_table.specs.History.{IsLegalFrom, table_from}
use Rattle.dine_table.proofs.CallerLemmas.{table_from-split}
use Rattle.dine_replay.proofs.Grown.{legal-both}
use Rattle.dine_replay.proofs.law.who_goes_on_writes_the_rest_of_the_journal.Goals as goal

pub returns-clause-legal : goal.returns-clause-legal
returns-clause-legal c text torn replayed more before legal =
    legal-both (opening_table before.limits) before.history more before.legal (subst (λ (t : Table). IsLegalFrom t more) before.table legal)

pub returns-clause-table : goal.returns-clause-table
returns-clause-table c text torn replayed more before =
    ap (λ t. table_from t more) before.table ∙ sym (table_from-split (opening_table before.limits) before.history more)
