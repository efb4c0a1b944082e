use Rattle.std.proofs.Common.{refl}
use Rattle.dine_script.proofs.Fronts.{on_err, prints-some, takes-more}
use Rattle.dine_script.proofs.Steps.{some_left}
use Rattle.dine_streams.proofs.CallerLemmas.{not_empty}
use Rattle.dine_script.proofs.script.run_some.Goals as goal

pub lines-preserved : goal.lines-preserved
lines-preserved c =
    let i = c.lines.invariant in
    let more = takes-more c.args.print c.args.run.now.session c.lines.run.session c.take_first.new.self c.args.text.now c.lines.rest.now c.in_ok-faulty.after.now _ _ _ c.lines.faults c.in_ok-faulty.faulty _ refl i.takes i.left i.short i.few i.clock (some_left _ (not_empty _ c.lines-test.ensures)) c.in_ok-faulty.ensures in
    record { takes = more.takes; left = more.left; short = more.short; few = more.few; clock = more.clock }

pub returns-then-len-most-clause-ok : goal.returns-then-len-most-clause-ok
returns-then-len-most-clause-ok c =
    let i = c.lines.invariant in
    takes-more c.args.print c.args.run.now.session c.lines.run.session c.take_first.new.self c.args.text.now c.lines.rest.now c.in_ok-faulty.after.now _ _ _ c.lines.faults c.in_ok-faulty.faulty _ refl i.takes i.left i.short i.few i.clock (some_left _ (not_empty _ c.lines-test.ensures)) c.in_ok-faulty.ensures

pub returns-in_err-faulty-clause-err : goal.returns-in_err-faulty-clause-err
returns-in_err-faulty-clause-err c =
    on_err _ _ (prints-some c.args.print c.args.run.now.session c.lines.run.session _ _ _ _ _ c.lines.faults c.lines.invariant.takes c.in_err-faulty.ensures)
