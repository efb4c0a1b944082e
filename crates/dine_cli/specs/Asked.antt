-- What the program does, by what its words ask for: what it writes, how it ends, and what was written where it gives up.
use Rattle.std.specs.Prelude.{◌≡◌, ◌⊎◌, ℕ, Bool, true, List, [], ◌∷◌, codes, string_bytes, Option, Some, IfSome, Result, Err, MatchResult}
use Rattle.std.specs.Io.KnownBytes.{Appends, Keeps}
use Rattle.dine_words.specs.declared.limits.Limits.{Limits}
use Rattle.dine_command_line.specs.declared.request.Asked.{Asked}
use Rattle.dine_command_line.specs.declared.request.Asked.TheVariants.{Run, Race, Audit, AuditLong, Serve, Resume, Chart as charting, Trace as tracing, Graph as graphing, Help, Nothing}
use Rattle.dine_command_line.specs.declared.request.Request.{Request}
use Rattle.dine_command_line.specs.declared.request.Trace.{Trace}
use Rattle.dine_command_line.specs.Program.{Doing, GaveUpFirst, IsOver, IsReadUnlessFailed, IsUnread, ReadStream, WrittenStream}
use Rattle.dine_streams.specs.declared.ended.Ended.{Ended}
use Rattle.dine_streams.specs.declared.ended.Ended.TheVariants as ended
use Rattle.dine_streams.specs.declared.ended.CliFault.{CliFault}
use Rattle.dine_streams.specs.declared.ended.CliFault.TheVariants.{Memory, Read, Write}
use Rattle.dine_lines.specs.declared.print.Print.{Print}
use Rattle.dine_replay.specs.AuditOutput.{IsAudited, IsPartlyAudited}
use Rattle.dine_cli.specs.ChartOutput.{IsCharted, IsPartlyCharted}
use Rattle.dine_cli.specs.GraphOutput.{IsGraphWritten, IsPartlyGraphWritten}
use Rattle.dine_streams.specs.Ending.{end_of}
use Rattle.dine_cli.specs.RaceOutput.{IsRaced, IsRacedInLines, IsRacedInPart}
use Rattle.dine_cli.specs.Resumed.{IsResumed, IsResumedAtRead, IsResumedInLines, IsResumedInPart}
use Rattle.dine_streams.specs.Inputs.{IsReadPast, most_bytes_of_an_input}
use Rattle.dine_script.specs.Streams.{IsMarked, IsMarkedOrLong, IsTextLeft}
use Rattle.dine_replay.specs.Replaying.{IsMarkedOrEndless}
use Rattle.dine_words.specs.Texts.{header_text, text_of_lines}
use Rattle.dine_words.specs.Versions.{written_version}
use Rattle.dine_serve.specs.Serving.{has_fault_of, opening, served_lines}
use Rattle.dine_streams.specs.Written.{AppendsLinesOf, AppendsPartOf}
use Rattle.dine_serve.specs.Streams.{HasAnswered}
use Rattle.dine_script.specs.Carried.{IsScriptDone, IsScriptLeft, IsTextDone}
use Rattle.dine_cli.specs.TraceOutput.{IsPartlyTraceWritten, IsTraceWritten}

-- what was asked for is done over this input, behind this journal where one is gone on with, and the run ends so: a
-- script's output, what came of a race, the answer of an audit, the answers of a service, a chart, a trace, a graph, the
-- help text, or that nothing was asked for that there is
abbrev pub IsDone : Asked → Option (List ℕ) → Option (List ℕ) → Option (List ℕ) → Option (List ℕ) → Ended → Type 0
IsDone (Run limits print) journal input old new end = IsScriptDone limits print input old new end
IsDone (Race print) journal input old new end = IfSome input (λ bytes. IsRaced print bytes old new end)
IsDone Audit journal input old new end = IfSome input (λ bytes. IsAudited bytes old new end)
IsDone (Serve limits passes) journal input old new end =
    IfSome input (λ bytes.
    Appends old new (text_of_lines (served_lines limits passes bytes))
    × (end ≡ end_of (has_fault_of (opening limits passes) bytes)))
IsDone (Resume path passes) journal input old new end = IfSome journal (λ text. IsResumed passes text input old new end)
IsDone AuditLong journal input old new end = IfSome input (λ bytes. IsAudited bytes old new end)
IsDone (charting chart) journal input old new end = IfSome input (λ bytes. IsCharted chart bytes old new end)
IsDone (tracing trace) journal input old new end = IfSome input (λ bytes. IsTraceWritten trace bytes old new end)
IsDone (graphing graph) journal input old new end = IfSome input (λ bytes. IsGraphWritten graph bytes old new end)
IsDone (Help text) journal input old new end = IsTextDone (string_bytes text) ended.Good old new end
IsDone (Nothing explanation) journal input old new end = IsTextDone (codes "fault command\n") ended.Fault old new end

-- what was written of a race that gave up with this fault
abbrev pub IsRaceLeft : Print → CliFault → Option (List ℕ) → Option (List ℕ) → Option (List ℕ) → Type 0
IsRaceLeft print Memory input old new = IfSome input (λ bytes. IsRacedInLines print bytes old new)
IsRaceLeft print Read input old new = Keeps old new
IsRaceLeft print Write input old new = IfSome input (λ bytes. IsRacedInPart print bytes old new)

-- what was written of a report on a journal that gave up with this fault, where `IsPart` is what a failed write left
abbrev pub IsReportLeft :
    (List ℕ → Option (List ℕ) → Option (List ℕ) → Type 0)
    → CliFault → Option (List ℕ) → Option (List ℕ) → Option (List ℕ) → Type 0
IsReportLeft IsPart Memory input old new = Keeps old new
IsReportLeft IsPart Read input old new = Keeps old new
IsReportLeft IsPart Write input old new = IfSome input (λ bytes. IsPart bytes old new)

-- what was written of a service that gave up with this fault. Where a read failed, all answers owed to the whole lines
-- that were heard before are written
abbrev pub IsServiceLeft : Limits → Option ℕ → CliFault → Option (List ℕ) → Option (List ℕ) → Option (List ℕ) → Type 0
IsServiceLeft limits passes Memory input old new =
    IfSome input (λ bytes. AppendsLinesOf old new (served_lines limits passes bytes))
IsServiceLeft limits passes Read input old new =
    (rest : Option (List ℕ))
    × HasAnswered (opening limits passes) (header_text written_version limits ∷ []) input rest old new
IsServiceLeft limits passes Write input old new =
    IfSome input (λ bytes. AppendsPartOf old new (text_of_lines (served_lines limits passes bytes)))

-- what was written of a journal that is gone on with, where the run gave up with this fault
abbrev pub IsResumedLeft :
    Option ℕ → CliFault → Option (List ℕ) → Option (List ℕ) → Option (List ℕ) → Option (List ℕ) → Type 0
IsResumedLeft passes Memory journal input old new = IfSome journal (λ text. IsResumedInLines passes text input old new)
IsResumedLeft passes Read journal input old new =
    IfSome journal (λ text. (rest : Option (List ℕ)) × IsResumedAtRead passes text input rest old new)
IsResumedLeft passes Write journal input old new = IfSome journal (λ text. IsResumedInPart passes text input old new)

-- what was written of a trace that gave up with this fault
abbrev pub IsTraceLeft : Trace → CliFault → Option (List ℕ) → Option (List ℕ) → Option (List ℕ) → Type 0
IsTraceLeft trace Memory input old new =
    Keeps old new ⊎ IfSome input (λ bytes. IsPartlyTraceWritten trace bytes old new)
IsTraceLeft trace Read input old new = Keeps old new
IsTraceLeft trace Write input old new = IfSome input (λ bytes. IsPartlyTraceWritten trace bytes old new)

-- what was written of what was asked for, where the run gave up with this fault
abbrev pub IsLeft : Asked → CliFault → Option (List ℕ) → Option (List ℕ) → Option (List ℕ) → Option (List ℕ) → Type 0
IsLeft (Run limits print) fault journal input old new = IsScriptLeft limits print fault input old new
IsLeft (Race print) fault journal input old new = IsRaceLeft print fault input old new
IsLeft Audit fault journal input old new = IsReportLeft IsPartlyAudited fault input old new
IsLeft (Serve limits passes) fault journal input old new = IsServiceLeft limits passes fault input old new
IsLeft (Resume path passes) fault journal input old new = IsResumedLeft passes fault journal input old new
IsLeft AuditLong fault journal input old new = IsReportLeft IsPartlyAudited fault input old new
IsLeft (charting chart) fault journal input old new = IsReportLeft (IsPartlyCharted chart) fault input old new
IsLeft (tracing trace) fault journal input old new = IsTraceLeft trace fault input old new
IsLeft (graphing graph) fault journal input old new = IsReportLeft (IsPartlyGraphWritten graph) fault input old new
IsLeft (Help text) fault journal input old new = IsTextLeft (string_bytes text) fault old new
IsLeft (Nothing explanation) fault journal input old new = IsTextLeft (codes "fault command\n") fault old new

-- what was asked for is done, or the run gave up
abbrev pub IsCarriedOut :
    Asked → Option (List ℕ) → Option (List ℕ) → Option (List ℕ) → Option (List ℕ)
    → Result Ended CliFault → Type 0
IsCarriedOut asked journal input old new outcome =
    MatchResult outcome
    (λ end. IsDone asked journal input old new end) (λ fault. IsLeft asked fault journal input old new)

-- a read failed: of the input, whose reader is marked, or which is longer than an input may be; or of a journal that is
-- gone on with
abbrev pub IsReadFailed : Asked → Bool → Option (List ℕ) → Bool → Option (List ℕ) → Type 0
IsReadFailed (Run limits print) journal_mark journal mark input = IsMarkedOrLong mark input
IsReadFailed (Race print) journal_mark journal mark input = IsMarkedOrLong mark input
IsReadFailed Audit journal_mark journal mark input = IsMarkedOrLong mark input
IsReadFailed (Serve limits passes) journal_mark journal mark input = mark ≡ true
IsReadFailed (Resume path passes) journal_mark journal mark input =
    IsMarkedOrEndless journal_mark journal ⊎ (mark ≡ true)
IsReadFailed AuditLong journal_mark journal mark input = IsMarkedOrEndless mark input
IsReadFailed (charting chart) journal_mark journal mark input = IsMarkedOrLong mark input
IsReadFailed (tracing trace) journal_mark journal mark input = IsMarkedOrLong mark input
IsReadFailed (graphing graph) journal_mark journal mark input = IsMarkedOrLong mark input
IsReadFailed (Help text) journal_mark journal mark input = ⊥
IsReadFailed (Nothing explanation) journal_mark journal mark input = ⊥

-- a journal is gone on with, and the file at its path can't be opened
abbrev pub LacksJournal : (List ℕ → Type 0) → Asked → Type 0
LacksJournal Lacks (Resume path passes) = Lacks (string_bytes path)
LacksJournal Lacks asked = ⊥

-- the journal that is gone on with can have these bytes: those that the file at its path holds. If none is gone on with, an
-- empty one stands for it
abbrev pub CanBeBehind : (List ℕ → Option (List ℕ) → Type 0) → Asked → Option (List ℕ) → Type 0
CanBeBehind Holds (Resume path passes) journal = Holds (string_bytes path) journal
CanBeBehind Holds asked journal = journal ≡ Some []

-- how far the input is read by what was asked for. A script, a race, an audit and a picture read all of it, unless a read
-- fails; an audit of a long journal does if memory runs out, up to more than an input may have. A service reads lines as they
-- come, and nothing else reads
abbrev pub IsReadFar : Asked → Result Ended CliFault → ReadStream → Type 0
IsReadFar (Run limits print) outcome reader = IsReadUnlessFailed outcome reader
IsReadFar (Race print) outcome reader = IsReadUnlessFailed outcome reader
IsReadFar Audit outcome reader = IsReadUnlessFailed outcome reader
IsReadFar (Serve limits passes) outcome reader = Unit {0}
IsReadFar (Resume path passes) outcome reader = Unit {0}
IsReadFar AuditLong outcome reader =
    outcome ≡ Err Memory
    → IsReadPast most_bytes_of_an_input reader.input reader.rest reader.was_marked reader.is_marked
IsReadFar (charting chart) outcome reader = IsReadUnlessFailed outcome reader
IsReadFar (tracing trace) outcome reader = IsReadUnlessFailed outcome reader
IsReadFar (graphing graph) outcome reader = IsReadUnlessFailed outcome reader
IsReadFar (Help text) outcome reader = IsUnread reader
IsReadFar (Nothing explanation) outcome reader = IsUnread reader

-- what was asked for is carried out behind this journal, whose reader has this mark then: no other failure ends it so, and
-- none is hidden
pub record IsRun (asked : Asked) (journal : Option (List ℕ)) (journal_mark : Bool)
    (reader : ReadStream) (writer : WrittenStream) (outcome : Result Ended CliFault) : Type 0 where
  pub carried : IsCarriedOut asked journal reader.input writer.old writer.new outcome
  pub marks : IsMarked outcome (IsReadFailed asked journal_mark journal reader.is_marked reader.input)
      reader.was_marked reader.is_marked writer.was_marked writer.is_marked
  pub far : IsReadFar asked outcome reader

-- what a command line asks for is carried out over the input that it names, behind the journal that is gone on with, if one is.
-- A journal that can't be opened is a read that failed
abbrev pub IsRequestDone : (List ℕ → Type 0) → (List ℕ → Option (List ℕ) → Type 0) → Request → Doing
IsRequestDone Lacks Holds request reader writer outcome =
    (LacksJournal Lacks request.asked × GaveUpFirst Read reader writer outcome)
    ⊎ ((journal : Option (List ℕ)) × (journal_mark : Bool) × CanBeBehind Holds request.asked journal
    × IsOver Lacks Holds request.input (IsRun request.asked journal journal_mark) reader writer outcome)
