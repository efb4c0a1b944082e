use Rattle.dine_front.proofs.closing.verdict_over.Goals as goal

-- cursors that are before the first entry of any history are so of this one
pub walk-requires-clause-start : goal.walk-requires-clause-start
walk-requires-clause-start g c = c.in-Ok.ensures.ok c.args.history.now
