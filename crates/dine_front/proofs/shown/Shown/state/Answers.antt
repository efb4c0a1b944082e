use Rattle.std.proofs.Common.{◌∙◌, ap, sym}
use Rattle.dine_table.specs.History.{table_after}
use Rattle.dine_table.specs.Table.{state_of}
use Rattle.dine_journal.specs.Told.{shown_at}
use Rattle.dine_journal.proofs.CallerLemmas.{board-shows}
use Rattle.dine_front.proofs.shown.Shown.state.Goals as goal

-- the board shows the table that the seen history leaves, and so the task's state
pub returns-clause-state : goal.returns-clause-state
returns-clause-state g c =
    c.state.ensures ∙ (ap (λ b. shown_at b c.args.task) c.self.invariant ∙ (sym (board-shows g.J.Naming.limits c.self.inside.sight c.args.task c.len-legal.ensures.legal) ∙ ap (λ l. state_of (table_after g.J.Naming.limits l) c.args.task) c.self.view_is))
