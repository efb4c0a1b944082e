-- The numbers by which faults are called.
use Rattle.std.specs.Prelude.{ℕ}
use Rattle.dine_replay.specs.declared.audit_answer.AuditFault.{AuditFault}
use Rattle.dine_replay.specs.declared.audit_answer.AuditFault.TheVariants as audit

-- the number of an audit's fault, whatever it carries
abbrev pub number_of_audit_fault : AuditFault → ℕ
number_of_audit_fault audit.Header = 1
number_of_audit_fault (audit.Line n) = 2
number_of_audit_fault (audit.Wrong n wanted) = 3
number_of_audit_fault audit.Read = 4
number_of_audit_fault audit.Memory = 5
