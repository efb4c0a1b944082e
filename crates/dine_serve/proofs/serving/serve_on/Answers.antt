use Rattle.dine_serve.proofs.Words.{◌≡◌, Err, rules, header_text, written_version, Memory, Read, Write, said_to_input}
use Rattle.dine_serve.proofs.Opening.{first-in_part, nothing-written}
use Rattle.dine_serve.proofs.Served.{headed-serves, serves-in_part}
use Rattle.dine_serve.proofs.serving.serve_on.Goals as goal

-- the first line isn't written whole
pub returns-in_err-write_header : goal.returns-in_err-write_header
returns-in_err-write_header g c =
    let wrote = c.write_header.ensures in
    serves-in_part c.from_residual.result _ _ _ _ _ _ _ _ _ _ _ c.from_residual.ensures.0
    (λ failed. let same : c.write_header.result ≡ Err Read = search rules in absurd (wrote.writes_only.no_read same))
    (λ failed. let same : c.write_header.result ≡ Err Memory = search rules in nothing-written _ _ _ _ (wrote.memory same))
    (λ failed. let same : c.write_header.result ≡ Err Write = search rules in first-in_part (header_text written_version c.args.limits) _ _ _ (said_to_input c.args.broker.now) (wrote.write same))
    (λ failed. let same : c.write_header.result ≡ Err Write = search rules in wrote.writes_only.mark same)

pub returns : goal.returns
returns g c =
    headed-serves c.answer_all.result _ _ (header_text written_version c.args.limits) _ _ _ _ _ _ _ _ _ _ c.in_ok-write_header.ensures.written c.in_ok-write_header.ensures.writes_only.unmarked c.answer_all.ensures
