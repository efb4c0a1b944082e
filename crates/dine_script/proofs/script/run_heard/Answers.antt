use Rattle.dine_script.proofs.Fronts.{front-heard, on_err, prints-heard}
use Rattle.dine_script.proofs.script.run_heard.Goals as goal

pub returns-clause-ran : goal.returns-clause-ran
returns-clause-ran c =
    let whole = c.lines_len-whole.ensures in
    front-heard c.args.print c.args.run.now.session c.run_some.new.run.session c.args.input.now.text c.text.result.now c.in_ok-faults.rest.now c.forget.new.self.text _ _ c.lines_len-whole.result c.in_ok-faults.faults
    c.text.ensures whole.bound whole.ended c.forget.ensures.text c.in_ok-faults.ensures.ok

pub returns-in_err-faults-clause-printed : goal.returns-in_err-faults-clause-printed
returns-in_err-faults-clause-printed c =
    on_err _ _
    (prints-heard c.args.print c.args.run.now.session c.args.input.now.text c.text.result.now _ _ c.lines_len-whole.result
    c.text.ensures c.lines_len-whole.ensures.ended c.in_err-faults.ensures.err)
