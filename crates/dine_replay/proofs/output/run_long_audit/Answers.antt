use Rattle.std.proofs.Common.{◌≡◌, ◌≢◌, Result, Err}
use Rattle.dine_replay.specs.declared.audit_answer.AuditFault.{AuditFault}
use Rattle.dine_replay.specs.declared.audit_answer.AuditFault.TheVariants.{Read}
use Rattle.dine_replay.specs.declared.audit_answer.Checked.{Checked}
use Rattle.dine_streams.specs.declared.ended.Ended.{Ended}
use Rattle.dine_streams.specs.declared.ended.CliFault.{CliFault}
use Rattle.dine_streams.specs.declared.ended.CliFault.TheVariants as cli
use Rattle.dine_streams.proofs.CallerLemmas.{past-later}
use Rattle.dine_replay.proofs.output.run_long_audit.Goals as goal

-- no read failed before memory ran out, and what is left is read behind what was
pub returns-in-Err-Memory-clause-far : goal.returns-in-Err-Memory-clause-far
returns-in-Err-Memory-clause-far g c = λ failed.
    let other : ◌≢◌ {A = Result Checked AuditFault} c.check_long-answer.result (Err Read) = λ is.
    (let said : ◌≡◌ {A = Result Ended CliFault} (Err c.in-Err-Memory.field-0) (Err cli.Read) = c.in-Err-Memory.ensures.failed is in
    let memory : c.in-Err-Memory.field-0 ≡ cli.Memory = c.in-Err-Memory.field-0-is in cc) in
    let read = c.check_long-answer.ensures.heard other in
    let memory : ◌≡◌ {A = Result Ended CliFault} (Err c.fault_behind.result) (Err cli.Memory) = failed in
    past-later 16777216 _ _ _ read.0 _ _ _ read.1 (c.check_long-answer.ensures.answered.mark.read_alone other) (c.fault_behind.ensures.memory cc)
