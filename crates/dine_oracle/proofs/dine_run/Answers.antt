use Rattle.std.proofs.Common.{ℕ, ◌≢◌, List, length, sym, ap, ◌∙◌, subst, arith}
use Rattle.dine_streams.specs.Ending.{status_of}
use Rattle.dine_script.specs.Script.{script_end}
use Rattle.dine_oracle.specs.Written.{IsWritten, too_short, print_for}
use Rattle.dine_oracle.proofs.SameLimits.{same-limits, same-output}
use Rattle.dine_oracle.proofs.dine_run.Goals as goal

pub returns-in-Ok-clause-output : goal.returns-in-Ok-clause-output
returns-in-Ok-clause-output c limits tasks conflicts ended =
    let text = same-output c.in-Some.limits limits (c.in-Some.ensures.kept.0 ∙ sym tasks) (c.in-Some.ensures.kept.1 ∙ sym conflicts) _ (print_for c.args.journal) c.print_for.ensures c.args.script.now _ c.in-Ok.ensures.text in
    let fits : c.write_out.result ≢ too_short = λ is. omega arith in
    subst (λ (t : List ℕ). IsWritten t c.args.out.now c.write_out.new.out c.write_out.new.written) text (c.write_out.ensures.output fits)

pub returns-in-Ok-clause-ended : goal.returns-in-Ok-clause-ended
returns-in-Ok-clause-ended c limits tasks conflicts ended =
    let script = c.args.script.now in
    let same = same-limits c.in-Some.limits limits (c.in-Some.ensures.kept.0 ∙ sym tasks) (c.in-Some.ensures.kept.1 ∙ sym conflicts) in
    let fits : c.write_out.result ≢ too_short = λ is. omega arith in
    c.write_out.ensures.ended fits ∙ ap status_of (c.in-Ok.ensures.ended ∙ ap (λ l. script_end l script) same)

pub returns-in-Ok-clause-space : goal.returns-in-Ok-clause-space
returns-in-Ok-clause-space c limits tasks conflicts is =
    let text = same-output c.in-Some.limits limits (c.in-Some.ensures.kept.0 ∙ sym tasks) (c.in-Some.ensures.kept.1 ∙ sym conflicts) _ (print_for c.args.journal) c.print_for.ensures c.args.script.now _ c.in-Ok.ensures.text in
    let long = c.write_out.ensures.space.0 is in
    let all = c.write_out.ensures.length in
    (omega arith, all ∙ ap length text)
