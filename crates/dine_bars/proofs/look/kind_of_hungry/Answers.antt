use Rattle.std.proofs.Common.{◌∙◌, sym, true, false}
use Rattle.dine_bars.proofs.Looking.{kind_by_slot}
use Rattle.dine_bars.proofs.look.kind_of_hungry.Goals as goal

pub returns-then-holds_all : goal.returns-then-holds_all
returns-then-holds_all c =
    let t = c.args.arbiter.now.table in
    let book = c.book.ensures in
    kind_by_slot t t.limits.tasks c.requires.seated c.book.result.now.records c.args.arbiter.now.forks c.args.slot true book.ends book.forks book.sound book.agree (sym c.if-holds_all.true ∙ c.holds_all.ensures)

pub returns-else-holds_all : goal.returns-else-holds_all
returns-else-holds_all c =
    let t = c.args.arbiter.now.table in
    let book = c.book.ensures in
    kind_by_slot t t.limits.tasks c.requires.seated c.book.result.now.records c.args.arbiter.now.forks c.args.slot false book.ends book.forks book.sound book.agree (sym c.if-holds_all.false ∙ c.holds_all.ensures)
