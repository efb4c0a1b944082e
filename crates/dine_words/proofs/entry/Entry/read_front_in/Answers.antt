use Rattle.std.proofs.Common.{refl}
use Rattle.dine_words.proofs.Spelling.{entry_answered, entry_unanswered}
use Rattle.dine_words.proofs.entry.Entry.read_front_in.Goals as goal

pub returns-in_err-reply : goal.returns-in_err-reply
returns-in_err-reply g c =
    let none = entry_unanswered c.args.version c.args.bytes.now c.in_ok-pass.rest.now c.in_ok-pass.pass c.in_ok-pass.call c.in_ok-pass.ensures c.in_err-reply.ensures in
    rw (c.from_residual-in_err-reply.ensures, none) refl

pub returns : goal.returns
returns g c =
    entry_answered c.args.version c.args.bytes.now c.in_ok-pass.rest.now c.in_ok-reply.rest.now c.in_ok-pass.pass c.in_ok-pass.call c.in_ok-reply.reply c.in_ok-pass.ensures c.in_ok-reply.ensures
