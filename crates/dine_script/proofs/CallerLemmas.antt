-- For programs that run scripts and write texts: what the engine answers is what was asked for, done or left.
use Rattle.std.proofs.Common.{◌≡◌, ◌≢◌, Bool, true, ℕ, List, Option, Some, None, Result, Ok, Err, IfOk, IfSome, OnOk, OnErr, IfErr, refl, subst}
use Rattle.std.specs.Io.KnownBytes.{Appends, Keeps}
use Rattle.dine_words.specs.declared.limits.Limits.{Limits}
use Rattle.dine_streams.specs.declared.ended.Ended.{Ended}
use Rattle.dine_streams.specs.declared.ended.CliFault.{CliFault}
use Rattle.dine_streams.specs.declared.ended.CliFault.TheVariants.{Memory, Read, Write}
use Rattle.dine_lines.specs.declared.print.Print.{Print}
use Rattle.dine_streams.specs.Written.{AppendsLinesOf, AppendsPartOf}
use Rattle.dine_script.specs.Script.{output_lines, script_end, script_output}
use Rattle.dine_script.specs.Streams.{IsMarked, IsTextLeft}
use Rattle.dine_script.specs.Carried.{IsScriptRun, IsTextRun}

-- what a run wrote and how it ended are known together
pub both_known : (input : Option (List ℕ)) (Written : List ℕ → Type 0) (Ends : Ended → List ℕ → Type 0) (outcome : Result Ended CliFault) → OnOk outcome (IfSome input Written) → IfOk outcome (λ end. IfSome input (Ends end)) → IfOk outcome (λ end. IfSome input (λ bytes. Written bytes × Ends end bytes))
both_known None Written Ends (Ok end) written ends = tt
both_known (Some bytes) Written Ends (Ok end) written ends = (written, ends)
both_known input Written Ends (Err fault) written ends = tt

-- a script's run
pub script_carried_out : (limits : Limits) (print : Print) (input old new : Option (List ℕ)) (outcome : Result Ended CliFault) → OnOk outcome (IfSome input (λ bytes. Appends old new (script_output print limits bytes))) → IfOk outcome (λ end. IfSome input (λ bytes. end ≡ script_end limits bytes)) → (outcome ≡ Err Memory → IfSome input (λ bytes. AppendsLinesOf old new (output_lines print limits bytes))) → (outcome ≡ Err Read → Keeps old new) → (outcome ≡ Err Write → IfSome input (λ bytes. AppendsPartOf old new (script_output print limits bytes))) → IsScriptRun limits print input old new outcome
script_carried_out limits print input old new (Ok end) written ends memory read write = both_known input (λ bytes. Appends old new (script_output print limits bytes)) (λ end bytes. end ≡ script_end limits bytes) (Ok end) written ends
script_carried_out limits print input old new (Err Memory) written ends memory read write = memory refl
script_carried_out limits print input old new (Err Read) written ends memory read write = read refl
script_carried_out limits print input old new (Err Write) written ends memory read write = write refl

-- a text was written that is these bytes, or its writing gave up
pub text_carried_out : (text bytes : List ℕ) (said : Ended) (old new : Option (List ℕ)) (outcome : Result Ended CliFault) → text ≡ bytes → OnOk outcome (Appends old new text) → IfOk outcome (λ end. end ≡ said) → IfErr outcome (λ fault. IsTextLeft text fault old new) → IsTextRun bytes said old new outcome
text_carried_out text bytes said old new (Ok end) same written ends left = (subst (λ b. Appends old new b) same written, ends)
text_carried_out text bytes said old new (Err fault) same written ends left = subst (λ b. IsTextLeft b fault old new) same left

-- a text was written, which marks only the writer, and only if a write fails
pub text_marked : (outcome : Result Ended CliFault) (read old new : Bool) → outcome ≢ Err Read → OnErr outcome (new ≡ true) → OnOk outcome (new ≡ old) → IsMarked outcome ⊥ read read old new
text_marked (Ok end) read old new no_read marked unmarked =
    record { read_mark = no_read; write_mark = λ (failed : Ok end ≡ Err Write). absurd (let k : Ok end ≡ Err Write = failed in cc); read_unmarked = refl; write_unmarked = unmarked }
text_marked (Err fault) read old new no_read marked unmarked =
    record { read_mark = no_read; write_mark = λ failed. marked; read_unmarked = tt; write_unmarked = tt }
