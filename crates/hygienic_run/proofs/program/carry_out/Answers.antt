use Rattle.std.proofs.Common.{codes, refl}
use Rattle.dine_streams.specs.declared.ended.Ended.TheVariants.{Good, Fault}
use Rattle.dine_script.proofs.CallerLemmas.{script_carried_out, text_carried_out, text_marked}
use Rattle.hygienic_run.proofs.program.carry_out.Goals as goal

pub returns-in-Run : goal.returns-in-Run
returns-in-Run g c =
    let said = c.run_script.ensures in
    rw c.in-Run.is (record {
      carried = script_carried_out c.in-Run.limits c.in-Run.print _ _ _ _ said.output said.ended said.memory said.read said.write;
      marks = said.marks;
      far = said.whole;
    })

pub returns-in-Help : goal.returns-in-Help
returns-in-Help g c =
    let said = c.write_text.ensures in
    rw c.in-Help.is (record {
      carried = text_carried_out _ _ Good _ _ _ c.as_bytes.ensures.value said.written said.ended said.left;
      marks = text_marked _ _ _ _ said.no_read said.mark said.unmarked;
      far = record { bytes = refl; mark = refl };
    })

pub returns-in-Nothing : goal.returns-in-Nothing
returns-in-Nothing g c =
    let said = c.write_text-in-Nothing.ensures in
    rw c.in-Nothing.is (record {
      carried = text_carried_out _ (codes "fault command\n") Fault _ _ _ refl said.written said.ended said.left;
      marks = text_marked _ _ _ _ said.no_read said.mark said.unmarked;
      far = record { bytes = refl; mark = refl };
    })
