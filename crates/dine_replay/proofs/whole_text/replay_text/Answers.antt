use Rattle.std.proofs.Common.{Err, IfErr}
use Rattle.dine_replay.specs.Audit.{IsAnswer}
use Rattle.dine_replay.proofs.Steps.{whole-added, whole-stopped}
use Rattle.dine_replay.proofs.Told.{passed}
use Rattle.dine_replay.proofs.whole_text.replay_text.Goals as goal

pub returns-in_err-take_in-clause-err : goal.returns-in_err-take_in-clause-err
returns-in_err-take_in-clause-err g c =
    let read = c.in-Some in
    let fault = c.in_err-take_in.field-0.0 in
    passed (λ r. IfErr r (λ fault. IsAnswer c.args.text.now (Err fault))) c.from_residual-in_err-take_in.result fault c.from_residual-in_err-take_in.ensures.1
    (whole-stopped c.args.text.now read.lines.now read.header c.in_ok-replayed.replayed c.in_ok-replayed.ensures read.ensures.allowed read.ensures.found fault c.in_err-take_in.ensures.err)

pub returns-clause-ok : goal.returns-clause-ok
returns-clause-ok g c =
    let read = c.in-Some in
    whole-added c.args.text.now read.lines.now read.header c.in_ok-replayed.replayed c.in_ok-replayed.ensures read.ensures.allowed read.ensures.found c.take_in.new.self _ _ c.in_ok-take_in.ensures.ok
