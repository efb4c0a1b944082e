use Rattle.std.proofs.Common.{sym, ap, ◌∙◌}
use Rattle.dine_table.specs.Table.{state_of}
use Rattle.dine_journal.specs.Kept.{table_now}
use Rattle.dine_journal.proofs.hall.Hall.next_ready.Goals as goal

-- the hall's table is the arbiter's, and that says the same
pub returns-clause-somebody : goal.returns-clause-somebody
returns-clause-somebody c u hungry nobody =
    let same = c.self.invariant.follows ∙ ap table_now c.self.view_is in
    c.next_ready.ensures.somebody u (ap (λ t. state_of t u) same ∙ hungry) (λ v eats. nobody v (sym (ap (λ t. state_of t v) same) ∙ eats))
