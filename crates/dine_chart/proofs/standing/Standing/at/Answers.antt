use Rattle.dine_chart.proofs.Standings.{standing-end, standing-next, standing-opening, standing-short}
use Rattle.dine_chart.proofs.standing.Standing.at.Goals as goal

pub loop-done-init : goal.loop-done-init
loop-done-init c = record {
  stands = standing-opening c.args.text.now c.in-Some.rest.now c.args.place c.in-Some.header.version c.in-Some.header.limits c.in_ok-standing.standing.arbiter.table c.requires.legal c.in-Some.ensures.allowed c.in-Some.ensures.found c.in_ok-standing.ensures.table;
  order = c.in_ok-standing.ensures.order;
}

pub returns-in_default-read_line-clause-at : goal.returns-in_default-read_line-clause-at
returns-in_default-read_line-clause-at c =
    standing-short c.args.text.now c.args.place c.in-Some.header.version c.in-Some.header.limits c.loop-done.rest.now c.loop-done.done c.loop-done.standing.arbiter.table c.loop-done.invariant.stands c.in_default-read_line.ensures.none

pub loop-done-preserved : goal.loop-done-preserved
loop-done-preserved c =
    let found = c.in-Some-read_line.ensures in
    record {
      stands = standing-next c.args.text.now c.args.place c.in-Some.header.version c.in-Some.header.limits c.loop-done.rest.now c.loop-done.done c.loop-done.standing.arbiter.table c.loop-done.invariant.stands c.in-Some-read_line.entry c.in-Some-read_line.after.now c.take_in.new.self.arbiter.table c.loop-done-test.true found.fits found.found c.in_ok-take_in.ensures.table;
      order = c.in_ok-take_in.ensures.order;
    }

pub returns-clause-at : goal.returns-clause-at
returns-clause-at c =
    standing-end c.args.text.now c.args.place c.in-Some.header.version c.in-Some.header.limits c.loop-done.rest.now c.loop-done.done c.loop-done.standing.arbiter.table c.loop-done.invariant.stands c.loop-done-test.false
