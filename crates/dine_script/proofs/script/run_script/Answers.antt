use Rattle.std.proofs.Common.{ap, ◌∙◌, rules}
use Rattle.dine_script.specs.Script.{Session, script_end}
use Rattle.dine_script.proofs.FrontRuns.{err_ends, if_known}
use Rattle.dine_script.proofs.script.run_script.Goals as goal

pub returns-in_err-faults-clause-marks : goal.returns-in_err-faults-clause-marks
returns-in_err-faults-clause-marks g c =
    let ends = c.in_err-faults.ensures.marks in
    record { read_mark = search (rules, ends.read_mark); write_mark = search (rules, ends.write_mark); read_unmarked = err_ends _ c.from_residual.result _ c.from_residual.ensures.1; write_unmarked = err_ends _ c.from_residual.result _ c.from_residual.ensures.1 }

pub returns-clause-ended : goal.returns-clause-ended
returns-clause-ended g c =
    if_known (g.R.Source.remaining c.args.reader.now) _ _
    (λ text is. c.end_of.ensures ∙ is ∙ ap (λ (s : Session). script_end s.table.limits text) c.in-Ok.ensures.first)
    c.in_ok-faults.ensures.ended
