use Rattle.dine_serve.proofs.Words.{◌<◌, length, drop, sym, ap, ◌∙◌, arith}
use Rattle.dine_serve.proofs.Rows.{put-changes, row-at}
use Rattle.dine_serve.proofs.waiters.pop_at.Goals as goal

pub returns : goal.returns
returns c =
    let less : c.args.slot < length c.args.queues.now.items = omega arith in
    put-changes c.args.queues.now.items c.args.slot c.pop_front.new.self _ less (c.pop_front.ensures.rest ∙ ap (drop 1) (sym (row-at c.args.queues.now.items c.args.slot c.index_mut.result.now less c.index_mut.ensures.value)))
