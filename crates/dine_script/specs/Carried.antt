-- What is seen of a script or a text once its run has ended: what was written, and how the run ended.
use Rattle.std.specs.Prelude.{◌≡◌, ℕ, List, Option, IfSome, Result, MatchResult}
use Rattle.std.specs.Io.KnownBytes.{Appends, Keeps}
use Rattle.dine_words.specs.declared.limits.Limits.{Limits}
use Rattle.dine_lines.specs.declared.print.Print.{Print}
use Rattle.dine_streams.specs.declared.ended.Ended.{Ended}
use Rattle.dine_streams.specs.declared.ended.CliFault.{CliFault}
use Rattle.dine_streams.specs.declared.ended.CliFault.TheVariants.{Memory, Read, Write}
use Rattle.dine_streams.specs.Written.{AppendsLinesOf, AppendsPartOf}
use Rattle.dine_script.specs.Script.{output_lines, script_end, script_output}
use Rattle.dine_script.specs.Streams.{IsTextLeft}

-- a script was run to its end: its output was written, and it ended as its lines say
abbrev pub IsScriptDone : Limits → Print → Option (List ℕ) → Option (List ℕ) → Option (List ℕ) → Ended → Type 0
IsScriptDone limits print input old new end =
    IfSome input (λ bytes. Appends old new (script_output print limits bytes) × (end ≡ script_end limits bytes))

-- what was written of a script that gave up with this fault
abbrev pub IsScriptLeft : Limits → Print → CliFault → Option (List ℕ) → Option (List ℕ) → Option (List ℕ) → Type 0
IsScriptLeft limits print Memory input old new =
    IfSome input (λ bytes. AppendsLinesOf old new (output_lines print limits bytes))
IsScriptLeft limits print Read input old new = Keeps old new
IsScriptLeft limits print Write input old new =
    IfSome input (λ bytes. AppendsPartOf old new (script_output print limits bytes))

-- a script was run to its end, or gave up
abbrev pub IsScriptRun :
    Limits → Print → Option (List ℕ) → Option (List ℕ) → Option (List ℕ) → Result Ended CliFault → Type 0
IsScriptRun limits print input old new outcome =
    MatchResult outcome
    (λ end. IsScriptDone limits print input old new end) (λ fault. IsScriptLeft limits print fault input old new)

-- a text was written, and the run ends so
abbrev pub IsTextDone : List ℕ → Ended → Option (List ℕ) → Option (List ℕ) → Ended → Type 0
IsTextDone text said old new end = Appends old new text × (end ≡ said)

-- a text was written, or its writing gave up
abbrev pub IsTextRun : List ℕ → Ended → Option (List ℕ) → Option (List ℕ) → Result Ended CliFault → Type 0
IsTextRun text said old new outcome =
    MatchResult outcome (λ end. IsTextDone text said old new end) (λ fault. IsTextLeft text fault old new)
