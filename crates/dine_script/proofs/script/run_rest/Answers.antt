use Rattle.std.proofs.Common.{arith, ap, ◌∙◌, subst}
use Rattle.std.specs.Io.KnownBytes.{Appends}
use Rattle.dine_lines.specs.Lines.{lines_of}
use Rattle.dine_script.specs.Printed.{printed_from}
use Rattle.dine_script.specs.Script.{faults_from}
use Rattle.dine_streams.specs.Written.{AppendsPartOf}
use Rattle.dine_streams.proofs.CallerLemmas.{empty, finished, moved, not_empty, partly, whole}
use Rattle.dine_script.proofs.FrontRuns.{rest-begun, rest-counted, rest-pending}
use Rattle.dine_script.proofs.Steps.{some_left}
use Rattle.dine_script.proofs.script.run_rest.Goals as goal

pub lines-init : goal.lines-init
lines-init g c =
    record {
      clock = omega arith;
      faults = omega arith;
      few = omega arith;
      progress = λ front is. moved _ _ c.in_ok-write_if_enough.ensures.ok (rest-begun front (printed_from c.args.print c.args.run.now.session (lines_of c.args.text.now)) _ c.args.run.now.pending.items is);
      unmarked = c.in_ok-write_if_enough.ensures.unmarked;
    }

pub returns-in_err-write_if_enough-clause-write : goal.returns-in_err-write_if_enough-clause-write
returns-in_err-write_if_enough-clause-write g c = λ failed front is.
    partly _ c.in_err-write_if_enough.ensures.err (rest-begun front (printed_from c.args.print c.args.run.now.session (lines_of c.args.text.now)) _ c.args.run.now.pending.items is)

pub lines-smaller : goal.lines-smaller
lines-smaller g c = c.in_ok-more.ensures.ok.some (some_left _ (not_empty _ c.lines-test.ensures))

pub lines-preserved : goal.lines-preserved
lines-preserved g c =
    let i = c.lines.invariant in
    let ran = c.in_ok-more.ensures.ok in
    let clock = ran.clock in
    let clock_before = i.clock in
    let few = ran.few in
    let few_before = i.few in
    let counted = rest-counted c.args.print c.lines.run.session c.run_some.new.run.session c.lines.rest.now c.in_ok-more.after.now c.run_some.new.run.pending.items c.in_ok-more.more ran in
    let counted_before = i.faults in
    record {
      clock = omega (arith, clock, clock_before);
      faults = omega (arith, counted, counted_before);
      few = omega (arith, few, few_before);
      progress = λ front is.
          moved _ _ c.in_ok-write_if_enough-2.ensures.ok
          (rest-pending c.args.print c.lines.run.session c.run_some.new.run.session c.lines.rest.now c.in_ok-more.after.now c.run_some.new.run.pending.items c.in_ok-more.more ran (i.progress front is));
      unmarked = c.in_ok-write_if_enough-2.ensures.unmarked ∙ i.unmarked;
    }

pub returns-in_err-more-clause-memory : goal.returns-in_err-more-clause-memory
returns-in_err-more-clause-memory g c = λ failed front is. whole (c.lines.invariant.progress front is)

pub returns-in_err-write_if_enough-2-clause-write : goal.returns-in_err-write_if_enough-2-clause-write
returns-in_err-write_if_enough-2-clause-write g c = λ failed front is.
    partly _ c.in_err-write_if_enough-2.ensures.err
    (rest-pending c.args.print c.lines.run.session c.run_some.new.run.session c.lines.rest.now c.in_ok-more.after.now c.run_some.new.run.pending.items c.in_ok-more.more c.in_ok-more.ensures.ok (c.lines.invariant.progress front is))

pub returns-in_err-write_whole-clause-write : goal.returns-in_err-write_whole-clause-write
returns-in_err-write_whole-clause-write g c = λ failed front is.
    partly _ (subst (AppendsPartOf _ _) c.deref.ensures.value c.in_err-write_whole.ensures.err) (c.lines.invariant.progress front is)

pub returns-clause-output : goal.returns-clause-output
returns-clause-output g c = λ front is.
    let none = ap (λ l. printed_from c.args.print c.lines.run.session (lines_of l)) (empty _ c.lines-test.ensures) in
    finished _ none (subst (Appends _ _) c.deref.ensures.value c.in_ok-write_whole.ensures.ok) (c.lines.invariant.progress front is)

pub returns-clause-faults : goal.returns-clause-faults
returns-clause-faults g c =
    let none = ap (λ l. faults_from c.lines.run.session (lines_of l)) (empty _ c.lines-test.ensures) in let all = c.lines.invariant.faults in
    omega (arith, none, all)
