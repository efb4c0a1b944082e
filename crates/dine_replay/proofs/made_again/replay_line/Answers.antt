use Rattle.std.proofs.Common.{refl}
use Rattle.dine_words.proofs.CallerLemmas.{unasked}
use Rattle.dine_replay.proofs.Compared.{compared-err, compared-ok}
use Rattle.dine_replay.proofs.made_again.replay_line.Goals as goal

pub returns-in_default-clause-err : goal.returns-in_default-clause-err
returns-in_default-clause-err c = (unasked c.args.version c.args.text.now c.in_default.ensures, refl)

pub returns-clause-ok : goal.returns-clause-ok
returns-clause-ok c =
    let found = c.in-Some in
    compared-ok c.args.version c.args.text.now found.asked.now found.pass found.call found.ensures c.args.arbiter.now.table c.apply-reply.new.self.table _ c.apply-reply.result refl c.apply-reply.ensures.reply c.apply-reply.ensures.table c.compare.result c.compare.ensures.entry c.compare.ensures.told

pub returns-clause-err : goal.returns-clause-err
returns-clause-err c =
    let found = c.in-Some in
    compared-err c.args.version c.args.text.now found.asked.now found.pass found.call found.ensures c.args.arbiter.now.table c.args.line _ c.apply-reply.result refl c.apply-reply.ensures.reply c.compare.result c.compare.ensures.err
