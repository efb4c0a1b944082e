use Rattle.std.proofs.Common.{rules}
use Rattle.dine_cli.proofs.race.write_raced.Goals as goal

pub returns-in-Replies-clause-write : goal.returns-in-Replies-clause-write
returns-in-Replies-clause-write g c failed =
    let (n, wrote) = c.write_report.ensures.write failed in
    rw c.in-Replies.is (n, search (rules, wrote))

pub returns-in-Journal-clause-memory : goal.returns-in-Journal-clause-memory
returns-in-Journal-clause-memory g c failed =
    rw c.in-Journal.is (c.write_journal.ensures.memory failed)

pub returns-in-Journal-clause-write : goal.returns-in-Journal-clause-write
returns-in-Journal-clause-write g c failed =
    rw c.in-Journal.is (c.write_journal.ensures.write failed)
