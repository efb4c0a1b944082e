use Rattle.std.proofs.Common.{codes, refl}
use Rattle.dine_command_line.specs.declared.request.Asked.TheVariants.{Race, Trace as tracing}
use Rattle.dine_streams.specs.declared.ended.Ended.TheVariants.{Good, Fault}
use Rattle.dine_script.proofs.CallerLemmas.{script_carried_out, text_carried_out, text_marked}
use Rattle.dine_cli.proofs.Outcomes.{carried_out, reported, resumed_carried_out, service_carried_out}
use Rattle.dine_cli.proofs.program.Means.carry_out.Goals as goal

pub returns-in-Run-clause-ran : goal.returns-in-Run-clause-ran
returns-in-Run-clause-ran g c =
    let said = c.run_script.ensures in
    rw c.in-Run.is (record {
      carried = script_carried_out c.in-Run.limits c.in-Run.print _ _ _ _ said.output said.ended said.memory said.read said.write;
      marks = said.marks;
      far = said.whole;
    })

pub returns-in-Race-clause-ran : goal.returns-in-Race-clause-ran
returns-in-Race-clause-ran g c =
    let said = c.run_race.ensures in
    rw c.in-Race.is (record {
      carried = carried_out (Race c.in-Race.print) (g.J.Source.remaining c.args.journal.now) _ _ _ _ said.raced said.memory said.read said.write;
      marks = said.marks;
      far = said.whole;
    })

pub returns-in-Audit-clause-ran : goal.returns-in-Audit-clause-ran
returns-in-Audit-clause-ran g c =
    let said = c.run_audit.ensures in
    rw c.in-Audit.is (record { carried = reported c.run_audit.result said.reported; marks = said.marks; far = said.whole refl })

pub returns-in-Serve-clause-ran : goal.returns-in-Serve-clause-ran
returns-in-Serve-clause-ran g c =
    let said = c.run_serve.ensures in
    rw c.in-Serve.is (record {
      carried = service_carried_out (g.J.Source.remaining c.args.journal.now) c.in-Serve.limits c.in-Serve.passes _ _ _ _ _ said.output said.ended said.memory said.at_each_read said.write;
      marks = said.marks;
      far = tt;
    })

pub returns-in-Resume-clause-ran : goal.returns-in-Resume-clause-ran
returns-in-Resume-clause-ran g c =
    let said = c.run_resumed.ensures in
    rw c.in-Resume.is (record {
      carried = resumed_carried_out c.in-Resume.passes _ _ _ _ _ _ said.ok said.memory said.read said.write;
      marks = said.marks;
      far = tt;
    })

pub returns-in-AuditLong-clause-ran : goal.returns-in-AuditLong-clause-ran
returns-in-AuditLong-clause-ran g c =
    let said = c.run_audit-in-AuditLong.ensures in
    rw c.in-AuditLong.is (record { carried = reported c.run_audit-in-AuditLong.result said.reported; marks = said.marks; far = said.far })

pub returns-in-Chart-clause-ran : goal.returns-in-Chart-clause-ran
returns-in-Chart-clause-ran g c =
    let said = c.run_drawing.ensures in
    rw c.in-Chart.is (record { carried = reported c.run_drawing.result said.reported; marks = said.marks; far = said.whole })

pub returns-in-Trace-clause-ran : goal.returns-in-Trace-clause-ran
returns-in-Trace-clause-ran g c =
    let said = c.run_trace.ensures in
    rw c.in-Trace.is (record {
      carried = carried_out (tracing c.in-Trace.trace) (g.J.Source.remaining c.args.journal.now) _ _ _ _ said.ok said.memory said.read said.write;
      marks = said.marks;
      far = said.whole;
    })

pub returns-in-Graph-clause-ran : goal.returns-in-Graph-clause-ran
returns-in-Graph-clause-ran g c =
    let said = c.run_drawing-in-Graph.ensures in
    rw c.in-Graph.is (record { carried = reported c.run_drawing-in-Graph.result said.reported; marks = said.marks; far = said.whole })

pub returns-in-Help-clause-ran : goal.returns-in-Help-clause-ran
returns-in-Help-clause-ran g c =
    let said = c.write_text.ensures in
    rw c.in-Help.is (record {
      carried = text_carried_out _ _ Good _ _ _ c.as_bytes.ensures.value said.written said.ended said.left;
      marks = text_marked _ _ _ _ said.no_read said.mark said.unmarked;
      far = record { bytes = refl; mark = refl };
    })

pub returns-clause-ran : goal.returns-clause-ran
returns-clause-ran g c =
    let said = c.write_text-in-Nothing.ensures in
    rw c.in-Nothing.is (record {
      carried = text_carried_out _ (codes "fault command\n") Fault _ _ _ refl said.written said.ended said.left;
      marks = text_marked _ _ _ _ said.no_read said.mark said.unmarked;
      far = record { bytes = refl; mark = refl };
    })
