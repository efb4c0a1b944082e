-- What is written of a race's answer, by how the writing ends.
use Rattle.std.proofs.Common.{◌≡◌, ℕ, List, Option, Result, Ok, Err, inr}
use Rattle.std.specs.Result.{IfOk, OnOk}
use Rattle.std.specs.Io.KnownBytes.{Appends}
use Rattle.dine_streams.specs.declared.ended.Ended.{Ended}
use Rattle.dine_streams.specs.declared.ended.CliFault.{CliFault}
use Rattle.dine_streams.specs.declared.ended.CliFault.TheVariants as fault
use Rattle.dine_lines.specs.declared.print.Print.{Print}
use Rattle.dine_streams.specs.Written.{AppendsLinesOf, AppendsPartOf}
use Rattle.dine_cli.specs.RaceOutput.{RaceAnswer, IsAnswerTo, IsRaced, IsRacedInLines, IsRacedInPart, race_end, race_lines, race_output}

module _ (print : Print) (text : List ℕ) (answer : RaceAnswer) (right : IsAnswerTo text answer) (old new : Option (List ℕ)) where
  -- all of it was written
  pub whole : (result : Result Ended CliFault) → OnOk result (Appends old new (race_output print answer)) → IfOk result (λ end. end ≡ race_end answer) → IfOk result (λ end. IsRaced print text old new end)
  whole (Ok end) written ends = record { answer = answer; right = right; written = written; ends = ends }
  whole (Err reason) written ends = tt

  -- some lines of it were written
  pub in_lines : (result : Result Ended CliFault) → (result ≡ Err fault.Memory → AppendsLinesOf old new (race_lines print answer)) → result ≡ Err fault.Memory → IsRacedInLines print text old new
  in_lines result written is = inr (answer, right, written is)

  -- a part of it was written
  pub in_part : (result : Result Ended CliFault) → (result ≡ Err fault.Write → AppendsPartOf old new (race_output print answer)) → result ≡ Err fault.Write → IsRacedInPart print text old new
  in_part result written is = (answer, right, written is)
