-- What the program for scripts does, by what its words ask for: what it writes, how it ends, and what was written if it gives up.
use Rattle.std.specs.Prelude.{ℕ, Bool, List, codes, string_bytes, Option, Result, MatchResult}
use Rattle.dine_command_line.specs.declared.request.Asked.{Asked}
use Rattle.dine_command_line.specs.declared.request.Asked.TheVariants.{Run, Race, Audit, AuditLong, Serve, Resume, Chart as charting, Trace as tracing, Graph as graphing, Help, Nothing}
use Rattle.dine_command_line.specs.declared.request.Request.{Request}
use Rattle.dine_command_line.specs.Program.{Doing, IsOver, IsReadUnlessFailed, IsUnread, ReadStream, WrittenStream}
use Rattle.dine_streams.specs.declared.ended.Ended.{Ended}
use Rattle.dine_streams.specs.declared.ended.Ended.TheVariants as ended
use Rattle.dine_streams.specs.declared.ended.CliFault.{CliFault}
use Rattle.dine_script.specs.Carried.{IsScriptDone, IsScriptLeft, IsTextDone}
use Rattle.dine_script.specs.Streams.{IsMarked, IsMarkedOrLong, IsTextLeft}

-- what is written where only the whole program can do what is asked for, or nobody can
abbrev pub command_fault : List ℕ
command_fault = codes "fault command\n"

-- what was asked for is done over this input, and the run ends so: a script's output, the help text, or that nothing was
-- asked for that this program does
abbrev pub IsDone : Asked → Option (List ℕ) → Option (List ℕ) → Option (List ℕ) → Ended → Type 0
IsDone (Run limits print) input old new end = IsScriptDone limits print input old new end
IsDone (Help text) input old new end = IsTextDone (string_bytes text) ended.Good old new end
IsDone asked input old new end = IsTextDone command_fault ended.Fault old new end

-- what was written of what was asked for, if the run gave up with this fault
abbrev pub IsLeft : Asked → CliFault → Option (List ℕ) → Option (List ℕ) → Option (List ℕ) → Type 0
IsLeft (Run limits print) fault input old new = IsScriptLeft limits print fault input old new
IsLeft (Help text) fault input old new = IsTextLeft (string_bytes text) fault old new
IsLeft asked fault input old new = IsTextLeft command_fault fault old new

-- what was asked for is done, or the run gave up
abbrev pub IsCarriedOut :
    Asked → Option (List ℕ) → Option (List ℕ) → Option (List ℕ) → Result Ended CliFault → Type 0
IsCarriedOut asked input old new outcome =
    MatchResult outcome (λ end. IsDone asked input old new end) (λ fault. IsLeft asked fault input old new)

-- a read of a script failed: its reader is marked, or its input is longer than one may be
abbrev pub IsReadFailed : Asked → Bool → Option (List ℕ) → Type 0
IsReadFailed (Run limits print) mark input = IsMarkedOrLong mark input
IsReadFailed asked mark input = ⊥

-- how far the input is read by what was asked for: a script reads all of it, unless a read fails, and nothing else reads
abbrev pub IsReadFar : Asked → Result Ended CliFault → ReadStream → Type 0
IsReadFar (Run limits print) outcome reader = IsReadUnlessFailed outcome reader
IsReadFar asked outcome reader = IsUnread reader

-- what was asked for is carried out: no other failure ends it so, and none is hidden
pub record IsRun (asked : Asked) (reader : ReadStream) (writer : WrittenStream) (outcome : Result Ended CliFault) : Type 0 where
  pub carried : IsCarriedOut asked reader.input writer.old writer.new outcome
  pub marks : IsMarked outcome (IsReadFailed asked reader.is_marked reader.input)
      reader.was_marked reader.is_marked writer.was_marked writer.is_marked
  pub far : IsReadFar asked outcome reader

-- what a command line asks for is carried out over the input that it names
abbrev pub IsRequestDone : (List ℕ → Type 0) → (List ℕ → Option (List ℕ) → Type 0) → Request → Doing
IsRequestDone Lacks Holds request = IsOver Lacks Holds request.input (IsRun request.asked)
