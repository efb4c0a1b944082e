use Rattle.dine_journal.proofs.Flats.{told_joins_alone}
use Rattle.dine_journal.proofs.Growth.{kept-append}
use Rattle.dine_journal.proofs.hall.Hall.act.Goals as goal

-- the reply is the table's
pub append-requires-clause-joins : goal.append-requires-clause-joins
append-requires-clause-joins c = told_joins_alone c.self.inside.arbiter.table c.args.call c.apply-reply.result c.apply-reply.ensures.reply

pub invariant_of-self : goal.invariant_of-self
invariant_of-self c =
    rw (c.append.ensures, c.apply-reply.ensures.table, c.apply-reply.ensures.messages) (kept-append _ _ _ _ _ c.self.invariant c.apply-reply.ensures.reply)
