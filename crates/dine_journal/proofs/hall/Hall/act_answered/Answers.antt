use Rattle.std.proofs.Common.{sym, ap, ◌∙◌}
use Rattle.dine_table.specs.Calls.{reply_of}
use Rattle.dine_journal.specs.Kept.{table_now}
use Rattle.dine_journal.proofs.Flats.{told_joins_alone}
use Rattle.dine_journal.proofs.Growth.{kept-append}
use Rattle.dine_journal.proofs.hall.Hall.act_answered.Goals as goal

-- the reply is the table's
pub append-requires-clause-joins : goal.append-requires-clause-joins
append-requires-clause-joins c = told_joins_alone (table_now c.args.self.now) c.args.entry.call c.args.entry.reply c.requires.reply

-- the reply that is known is that of the table under the arbiter
pub invariant_of-self : goal.invariant_of-self
invariant_of-self c =
    let call = c.args.entry.call in
    let says = c.requires.reply ∙ (sym (ap (λ h. reply_of (table_now h) call) c.self.view_is) ∙ sym (ap (λ t. reply_of t call) c.self.invariant.follows)) in
    rw (c.append.ensures, c.apply_answered.ensures.table, c.apply_answered.ensures.messages) (kept-append _ _ _ _ c.args.entry c.self.invariant says)
