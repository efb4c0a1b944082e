use Rattle.std.proofs.Common.{◌≢◌, ℕ, List, Option, Result, Err, IfSome, ap, rules}
use Rattle.std.specs.Prelude.{IsErrOf}
use Rattle.dine_replay.specs.declared.audit_answer.AuditFault.{AuditFault}
use Rattle.dine_replay.specs.declared.audit_answer.AuditFault.TheVariants.{Read}
use Rattle.dine_replay.specs.declared.replayed.Replayed.{Replayed}
use Rattle.dine_replay.specs.Bounds.{IsMarkedOrPastFrom, StaysWithinBound}
use Rattle.dine_replay.specs.Replaying.{IsReplay}
use Rattle.dine_replay.proofs.Bounds.{ok_reads, past_before, stays_later, within_here}
use Rattle.dine_replay.proofs.Steps.{err_is}
use Rattle.dine_replay.proofs.Told.{passed}
use Rattle.dine_replay.proofs.read_by_read.replay_within.Goals as goal

pub returns-in_err-replay_rest-clause-answer : goal.returns-in_err-replay_rest-clause-answer
returns-in_err-replay_rest-clause-answer g c =
    let first : Option (List ℕ) = g.R.Source.remaining c.args.reader.now in
    passed (λ (r : Result Replayed AuditFault). IfSome first (λ text. IsReplay text r)) c.from_residual-in_err-replay_rest.result c.in_err-replay_rest.field-0.0 c.from_residual-in_err-replay_rest.ensures.1
    (c.in_err-replay_rest.ensures.fault first c.in_ok-replayed.ensures.going)

pub returns-in_err-replay_rest-clause-within : goal.returns-in_err-replay_rest-clause-within
returns-in_err-replay_rest-clause-within g c =
    let first : Option (List ℕ) = g.R.Source.remaining c.args.reader.now in
    let now : Option (List ℕ) = g.R.Source.remaining c.replay_front.new.reader in
    let last : Option (List ℕ) = g.R.Source.remaining c.replay_rest.new.reader in
    let fault : AuditFault = c.in_err-replay_rest.field-0.0 in
    passed (λ (r : Result Replayed AuditFault). r ≢ Err Read → StaysWithinBound first last c.args.bound.now c.replay_rest.new.bound) c.from_residual-in_err-replay_rest.result fault c.from_residual-in_err-replay_rest.ensures.1
    (λ other. stays_later first now last c.args.bound.now c.replay_front.new.bound c.replay_rest.new.bound
    (c.in_ok-replayed.ensures.within (ok_reads c.in_ok-replayed.replayed)) (c.in_err-replay_rest.ensures.within (λ same. other (ap (λ (f : AuditFault). Err f) (err_is fault same)))))

pub returns-in_err-replay_rest-clause-mark : goal.returns-in_err-replay_rest-clause-mark
returns-in_err-replay_rest-clause-mark g c =
    let first : Option (List ℕ) = g.R.Source.remaining c.args.reader.now in
    let mark = g.R.Source.mark c.replay_rest.new.reader in
    let fault : AuditFault = c.in_err-replay_rest.field-0.0 in
    record {
      failed =
          passed (λ (r : Result Replayed AuditFault). IsErrOf r Read → IsMarkedOrPastFrom mark first c.args.bound.now) c.from_residual-in_err-replay_rest.result fault c.from_residual-in_err-replay_rest.ensures.1
          (λ read most before w.
          past_before mark before first w
          (c.in_err-replay_rest.ensures.mark.failed (ap (λ (f : AuditFault). Err f) (err_is fault read)) c.args.bound.now.allowed first c.in_ok-replayed.ensures.going
          (c.in_ok-replayed.ensures.within (ok_reads c.in_ok-replayed.replayed) c.args.bound.now.allowed first (within_here w))));
      unmarked = search rules;
      read_alone = search rules;
    }
