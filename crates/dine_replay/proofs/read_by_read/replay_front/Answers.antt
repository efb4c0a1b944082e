use Rattle.std.proofs.Common.{ℕ, List, Option, Result, IfErr, IfSome, rules}
use Rattle.std.specs.Prelude.{IsErrOf}
use Rattle.dine_replay.specs.declared.audit_answer.AuditFault.{AuditFault}
use Rattle.dine_replay.specs.declared.audit_answer.AuditFault.TheVariants.{Read}
use Rattle.dine_replay.specs.Bounds.{IsMarkedOrPastFrom}
use Rattle.dine_replay.proofs.Bounds.{endless_past}
use Rattle.dine_replay.proofs.Told.{passed}
use Rattle.dine_replay.specs.declared.replayed.Replayed.{Replayed}
use Rattle.dine_replay.specs.Replaying.{IsRefusal}
use Rattle.dine_replay.proofs.Steps.{err_is}
use Rattle.dine_replay.proofs.Hearings.{first_added, first_endless, first_stopped}
use Rattle.dine_replay.proofs.read_by_read.replay_front.Goals as goal

pub returns-in_err-take_in-clause-fault : goal.returns-in_err-take_in-clause-fault
returns-in_err-take_in-clause-fault g c =
    let first : Option (List ℕ) = g.R.Source.remaining c.args.reader.now in
    let lines = c.lines.ensures in
    passed (λ (r : Result Replayed AuditFault). IfErr r (λ fault. IfSome first (λ text. IsRefusal text fault))) c.from_residual-in_err-take_in.result c.in_err-take_in.field-0.0 c.from_residual-in_err-take_in.ensures.1
    (first_stopped first (g.R.Source.remaining c.hear_header.new.reader) c.hear_header.new.buffer c.in_ok-header.header c.in_ok-header.place c.in_ok-header.ensures.heard
    c.lines.result.now lines.lines lines.ended c.in_ok-replayed.replayed c.in_ok-replayed.ensures c.in_err-take_in.field-0.0 c.in_err-take_in.ensures.err)

pub returns-in_err-take_in-clause-mark : goal.returns-in_err-take_in-clause-mark
returns-in_err-take_in-clause-mark g c =
    let first : Option (List ℕ) = g.R.Source.remaining c.args.reader.now in
    let lines = c.lines.ensures in
    record {
      failed =
          passed (λ (r : Result Replayed AuditFault). IsErrOf r Read → IsMarkedOrPastFrom (g.R.Source.mark c.hear_header.new.reader) first c.args.bound.now) c.from_residual-in_err-take_in.result c.in_err-take_in.field-0.0 c.from_residual-in_err-take_in.ensures.1
          (λ read.
          endless_past (g.R.Source.mark c.hear_header.new.reader) first c.args.bound.now
          (first_endless first (g.R.Source.remaining c.hear_header.new.reader) c.hear_header.new.buffer c.in_ok-header.header c.in_ok-header.place c.in_ok-header.ensures.heard
          c.lines.result.now lines.lines lines.ended c.in_ok-replayed.replayed c.in_ok-replayed.ensures c.in_err-take_in.field-0.0 c.in_err-take_in.ensures.err (err_is c.in_err-take_in.field-0.0 read)));
      unmarked = search rules;
      read_alone = search rules;
    }

pub returns-clause-going : goal.returns-clause-going
returns-clause-going g c =
    let h = c.in_ok-header.ensures.heard in
    let lines = c.lines.ensures in
    record {
      heard = h.heard;
      begun = h.begun;
      consumed = h.consumed;
      whole =
          first_added (g.R.Source.remaining c.args.reader.now) (g.R.Source.remaining c.hear_header.new.reader) c.hear_header.new.buffer c.in_ok-header.header c.in_ok-header.place h
          c.lines.result.now lines.lines lines.ended c.in_ok-replayed.replayed c.in_ok-replayed.ensures c.take_in.new.self _ _ c.in_ok-take_in.ensures.ok;
      one = h.one;
      kept = h.kept;
    }
