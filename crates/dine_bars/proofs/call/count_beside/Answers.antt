use Rattle.std.proofs.Common.{arith}
use Rattle.dine_bars.proofs.Beside.{beside-count}
use Rattle.dine_bars.proofs.Told.{are_seated}
use Rattle.dine_bars.proofs.call.count_beside.Goals as goal

pub returns-clause-count : goal.returns-clause-count
returns-clause-count c =
    let t = c.args.arbiter.now.table in
    let book = c.book.ensures in
    let all = beside-count t (are_seated t book.sound c.requires.below) book.sound c.args.task c.requires.here c.book.result.now.records book.ends in
    let counted = c.degree.ensures in
    omega arith

pub degree-requires : goal.degree-requires
degree-requires c =
    let t = c.args.arbiter.now.table in
    let book = c.book.ensures in
    let low = (are_seated t book.sound c.requires.below).within c.args.task c.requires.here in
    let slots = book.slots in
    omega arith
