use Rattle.std.proofs.Common.{Err, ap, ◌∙◌, arith}
use Rattle.dine_streams.specs.declared.input.InputFault.{InputFault}
use Rattle.dine_streams.proofs.CallerLemmas.{heard-out-later, of-input, out-all}
use Rattle.dine_script.proofs.FrontRuns.{front-of-all, if_err, if_ok, printed-of-all}
use Rattle.dine_script.proofs.script.read_script.Goals as goal

pub returns-clause-ran : goal.returns-clause-ran
returns-clause-ran g c =
    if_ok c.in_ok-front.front _ _
    (λ faults ran. front-of-all _ _ _ c.run_front.new.input c.hear.new.self 18446744073709551615 c.in_ok-hear.ensures.heard (omega arith) c.args.print c.args.run.now.session c.run_front.new.run.session _ _ faults ran)
    c.in_ok-front.ensures.ran

pub returns-clause-printed : goal.returns-clause-printed
returns-clause-printed g c =
    if_err c.in_ok-front.front _ _
    (λ printed. printed-of-all _ _ _ c.run_front.new.input c.hear.new.self 18446744073709551615 c.in_ok-hear.ensures.heard (omega arith) c.args.print c.args.run.now.session _ _ printed)
    c.in_ok-front.ensures.printed

pub returns-in_err-front-clause-whole : goal.returns-in_err-front-clause-whole
returns-in_err-front-clause-whole g c =
    of-input _ c.from_residual.result c.in_err-front.field-0.0 c.from_residual.ensures.1
    (λ memory. c.in_err-front.ensures.memory (ap (λ (f : InputFault). Err f) memory))

pub returns-in_err-hear-clause-whole : goal.returns-in_err-hear-clause-whole
returns-in_err-hear-clause-whole g c =
    let heard = c.in_ok-front.ensures.heard in
    of-input _ c.from_residual-in_err-hear.result c.in_err-hear.field-0.0 c.from_residual-in_err-hear.ensures.1
    (λ memory. heard-out-later heard.0 _ _ _ c.run_front.new.input _ _ _ heard.1 c.in_ok-front.ensures.unmarked (c.in_err-hear.ensures.memory (ap (λ (f : InputFault). Err f) memory)))

pub returns-clause-whole : goal.returns-clause-whole
returns-clause-whole g c =
    let heard = c.in_ok-front.ensures.heard in
    λ _. out-all _ _ _ c.run_front.new.input c.hear.new.self 18446744073709551615 c.in_ok-hear.ensures.heard (omega arith) heard.0 _ _ heard.1 (c.in_ok-hear.ensures.unmarked ∙ c.in_ok-front.ensures.unmarked)
