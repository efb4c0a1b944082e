use Rattle.std.proofs.Common.{◌∙◌}
use Rattle.dine_streams.proofs.Wholes.{Appends-more, mark-taken, within-more}
use Rattle.dine_streams.proofs.whole.write_whole.Goals as goal

pub loop-done-preserved : goal.loop-done-preserved
loop-done-preserved g c =
    record {
      in_range = within-more c.args.bytes.now c.loop-done.done c.in_ok-count.count c.loop-done.invariant.in_range c.in_ok-count.ensures.bound;
      written = Appends-more _ _ _ c.args.bytes.now c.loop-done.done c.in_ok-count.count c.loop-done.invariant.written c.in_ok-count.ensures.bytes;
      mark = c.in_ok-count.ensures.mark ∙ mark-taken _ c.in_ok-count.count _ c.if-count-eq0.false ∙ c.loop-done.invariant.mark;
    }
