use Rattle.dine_streams.specs.Ending.{last_line}
use Rattle.dine_streams.proofs.Wholes.{mark_written, part_written}
use Rattle.dine_streams.proofs.ended.finish.Goals as goal

pub returns-in-Err-clause-line : goal.returns-in-Err-clause-line
returns-in-Err-clause-line g c =
    let wrote = c.write_whole.ensures in
    rw c.in-Err.is (part_written c.last_line.result.now (last_line c.in-Err.fault) _ _ c.write_whole.result c.last_line.ensures wrote.ok wrote.err)

pub returns-in-Err-clause-mark : goal.returns-in-Err-clause-mark
returns-in-Err-clause-mark g c =
    let wrote = c.write_whole.ensures in
    rw c.in-Err.is (mark_written _ _ c.write_whole.result wrote.unmarked wrote.marked)
