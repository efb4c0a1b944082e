-- What an audit writes, and how it ends, by its answer.
use Rattle.std.specs.Prelude.{◌≡◌, ℕ, List, [], ◌++◌, codes, decimal, Option, Result, Ok, Err}
use Rattle.std.specs.Io.KnownBytes.{Appends}
use Rattle.dine_words.specs.Texts.{reply_text}
use Rattle.dine_replay.specs.declared.audit_answer.AuditFault.{AuditFault}
use Rattle.dine_replay.specs.declared.audit_answer.AuditFault.TheVariants.{Header, Line, Wrong, Read, Memory}
use Rattle.dine_replay.specs.declared.audit_answer.Checked.{Checked}
use Rattle.dine_replay.specs.Audit.{TellsOfText}
use Rattle.dine_replay.specs.Checking.{IsChecked}
use Rattle.dine_streams.specs.declared.ended.Ended.{Ended}
use Rattle.dine_streams.specs.declared.ended.Ended.TheVariants as ended
use Rattle.dine_streams.specs.Written.{AppendsPartOf}

-- the output: two lines for a legal journal, the second with the most that anybody was overtaken, and else one. Faults of
-- reading and of memory have none, for they say nothing of the text
abbrev pub audit_output : Result Checked AuditFault → List ℕ
audit_output (Ok checked) =
    (codes "legal " ++ decimal checked.entries ++ codes "\n")
    ++ (codes "overtakes " ++ decimal checked.most_overtakes ++ codes "\n")
audit_output (Err (Wrong n wanted)) =
    codes "wrong " ++ decimal n ++ codes " want " ++ reply_text wanted ++ codes "\n"
audit_output (Err Header) = codes "fault header\n"
audit_output (Err (Line n)) = codes "fault line " ++ decimal n ++ codes "\n"
audit_output (Err Read) = []
audit_output (Err Memory) = []

-- how an audit with this answer ends: well where the journal is legal, wrong where a reply is, and else with a fault
abbrev pub audit_end : Result Checked AuditFault → Ended
audit_end (Ok checked) = ended.Good
audit_end (Err (Wrong n wanted)) = ended.Wrong
audit_end (Err Header) = ended.Fault
audit_end (Err (Line n)) = ended.Fault
audit_end (Err Read) = ended.Fault
audit_end (Err Memory) = ended.Fault

-- known bytes grow by the output of the answer that the text has, and the audit ends as that answer does
pub record IsAudited (text : List ℕ) (old new : Option (List ℕ)) (end : Ended) : Type 0 where
  pub answer : Result Checked AuditFault
  pub tells : TellsOfText answer
  pub right : IsChecked text answer
  pub written : Appends old new (audit_output answer)
  pub ends : end ≡ audit_end answer

-- known bytes grow by a part of the output of the answer that the text has
pub record IsPartlyAudited (text : List ℕ) (old new : Option (List ℕ)) : Type 0 where
  pub answer : Result Checked AuditFault
  pub tells : TellsOfText answer
  pub right : IsChecked text answer
  pub written : AppendsPartOf old new (audit_output answer)
