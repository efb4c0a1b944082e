use Rattle.dine_journal.proofs.CallerLemmas.{told_joins_alone}
use Rattle.dine_replay.proofs.made_again.repeat.Goals as goal

-- the reply is the table's
pub visit-requires : goal.visit-requires
visit-requires g c = told_joins_alone c.args.arbiter.now.table c.args.call c.reply_to-reply.result c.reply_to-reply.ensures
