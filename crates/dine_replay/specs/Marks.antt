-- What is answered to a journal that is read, and what is told of its reader's mark, before and after.
use Rattle.std.specs.Prelude.{◌≡◌, ◌≢◌, ℕ, Bool, List, Option, Result, Err, IfSome, IsErrOf, OnOk}
use Rattle.dine_replay.specs.declared.audit_answer.AuditFault.{AuditFault}
use Rattle.dine_replay.specs.declared.audit_answer.AuditFault.TheVariants.{Read}
use Rattle.dine_replay.specs.declared.output.AuditReading.{AuditReading}
use Rattle.dine_replay.specs.declared.output.AuditReading.TheVariants.{ReadByRead, Whole}
use Rattle.dine_replay.specs.Replaying.{IsMarkedOrEndless}
use Rattle.dine_streams.specs.Inputs.{IsMarkedOrLong, IsReadWhole, IsReadPast, most_bytes_of_an_input}
use Rattle.std.specs.Io.KnownBytes.{Consumes}

-- the fault is `Read` only where this is known of the read that failed. The reader's mark is as it was where all is well, and
-- where another fault comes
pub record IsReaderMarked {A : Type 0} (answer : Result A AuditFault) (ReadFailed : Type 0) (old new : Bool) : Type 0 where
  pub failed : IsErrOf answer Read → ReadFailed
  pub unmarked : OnOk answer (new ≡ old)
  pub read_alone : answer ≢ Err Read → new ≡ old

-- the answer is the text's, where the reader's bytes are known, and its mark tells of reads what `IsReaderMarked` says, where
-- this is known of one that failed
pub record IsAnswered {A : Type 0} (IsAnswerTo : List ℕ → Result A AuditFault → Type 0) (HasFailed : Bool → Option (List ℕ) → Type 0) (outcome : Result A AuditFault) (known : Option (List ℕ)) (old new : Bool) : Type 0 where
  pub answer : IfSome known (λ text. IsAnswerTo text outcome)
  pub mark : IsReaderMarked outcome (HasFailed new known) old new

-- what is known of a read that failed, by how the journal is read, once the reader is marked so, or not
abbrev pub HasFailedIn : AuditReading → Bool → Option (List ℕ) → Type 0
HasFailedIn Whole mark known = IsMarkedOrLong mark known
HasFailedIn ReadByRead mark known = IsMarkedOrEndless mark known

-- of the bytes that were left some were read
abbrev pub HasRead : Option (List ℕ) → Option (List ℕ) → Type 0
HasRead first now = (bytes : List ℕ) × Consumes first now bytes

-- how far a journal was read where memory ran out, by how it is read: to its end, or up to more than an input may have
abbrev pub IsReadFar : AuditReading → Option (List ℕ) → Option (List ℕ) → Bool → Bool → Type 0
IsReadFar Whole first now old new = IsReadWhole first now old new
IsReadFar ReadByRead first now old new = IsReadPast most_bytes_of_an_input first now old new
