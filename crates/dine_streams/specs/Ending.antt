-- How the program ends.
use Rattle.std.specs.Prelude.{◌≡◌, ◌⊎◌, ℕ, Bool, true, if◌then◌else◌, List, [], codes, Option, Result, Ok, Err, MatchResult}
use Rattle.std.specs.Io.KnownBytes.{Keeps}
use Rattle.dine_streams.specs.declared.ended.Ended.{Ended}
use Rattle.dine_streams.specs.declared.ended.Ended.TheVariants.{Good, Wrong, Fault}
use Rattle.dine_streams.specs.declared.ended.CliFault.{CliFault}
use Rattle.dine_streams.specs.declared.ended.CliFault.TheVariants.{Memory, Read, Write}
use Rattle.dine_streams.specs.Written.{AppendsPartOf}

-- the exit status of a run that came to its end
abbrev pub status_of : Ended → ℕ
status_of Good = 0
status_of Wrong = 1
status_of Fault = 2

-- how a run ends: with a fault, or well
abbrev pub end_of : Bool → Ended
end_of has_fault = if has_fault then Fault else Good

-- the exit status of any run
abbrev pub exit_status : Result Ended CliFault → ℕ
exit_status (Ok ended) = status_of ended
exit_status (Err fault) = 3

-- what the program writes last, after a run that gave up. After a failed write it writes nothing more
abbrev pub last_line : CliFault → List ℕ
last_line Memory = codes "fault memory\n"
last_line Read = codes "fault read\n"
last_line Write = []

-- the last line of a run that gave up is written, or a part of it where a write fails. Another run writes nothing more
abbrev pub IsEnded : Result Ended CliFault → Option (List ℕ) → Option (List ℕ) → Type 0
IsEnded outcome old new = MatchResult outcome (λ end. Keeps old new) (λ fault. AppendsPartOf old new (last_line fault))

-- only the last line of a run that gave up can leave the writer marked
abbrev pub IsEndMarked : Result Ended CliFault → Bool → Bool → Type 0
IsEndMarked outcome old new = MatchResult outcome (λ end. new ≡ old) (λ fault. (new ≡ old) ⊎ (new ≡ true))
