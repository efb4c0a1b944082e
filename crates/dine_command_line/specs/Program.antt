-- What a program does between its words and its exit status, by what its words ask for.
use Rattle.std.specs.Prelude.{◌≡◌, ◌≢◌, ℕ, ◌⊎◌, Bool, List, Option, Result, Err, string_bytes}
use Rattle.std.specs.Io.KnownBytes.{Keeps}
use Rattle.dine_command_line.specs.declared.request.Input.{Input}
use Rattle.dine_command_line.specs.declared.request.Input.TheVariants.{Standard, File}
use Rattle.dine_command_line.specs.declared.request.Request.{Request}
use Rattle.dine_streams.specs.declared.ended.Ended.{Ended}
use Rattle.dine_streams.specs.declared.ended.CliFault.{CliFault}
use Rattle.dine_streams.specs.declared.ended.CliFault.TheVariants.{Memory, Read}
use Rattle.dine_streams.specs.Inputs.{IsReadWhole}
use Rattle.dine_streams.specs.Ending.{IsEndMarked, IsEnded, exit_status}

-- what is seen of a reader: the bytes that are left, if they are known, and its mark, each before and after a run
pub record ReadStream : Type 0 where
  pub input : Option (List ℕ)
  pub rest : Option (List ℕ)
  pub was_marked : Bool
  pub is_marked : Bool

-- what is seen of a writer: what was written, if it is known, and its mark, each before and after a run
pub record WrittenStream : Type 0 where
  pub old : Option (List ℕ)
  pub new : Option (List ℕ)
  pub was_marked : Bool
  pub is_marked : Bool

-- a reader, seen so before and after
abbrev pub reading : Option (List ℕ) → Option (List ℕ) → Bool → Bool → ReadStream
reading input rest was_marked is_marked =
    record { input = input; rest = rest; was_marked = was_marked; is_marked = is_marked }

-- a writer, seen so before and after
abbrev pub writing : Option (List ℕ) → Option (List ℕ) → Bool → Bool → WrittenStream
writing old new was_marked is_marked =
    record { old = old; new = new; was_marked = was_marked; is_marked = is_marked }

-- nothing was read
pub record IsUnread (reader : ReadStream) : Type 0 where
  pub bytes : reader.rest ≡ reader.input
  pub mark : reader.is_marked ≡ reader.was_marked

-- all that was left was read, unless a read failed
abbrev pub IsReadUnlessFailed : Result Ended CliFault → ReadStream → Type 0
IsReadUnlessFailed outcome reader =
    outcome ≢ Err Read → IsReadWhole reader.input reader.rest reader.was_marked reader.is_marked

-- a run gave up with this fault before it read or wrote anything
pub record GaveUpFirst
    (fault : CliFault) (reader : ReadStream) (writer : WrittenStream) (outcome : Result Ended CliFault) : Type 0 where
  pub gave_up : outcome ≡ Err fault
  pub unread : IsUnread reader
  pub unwritten : Keeps writer.old writer.new
  pub mark : writer.is_marked ≡ writer.was_marked

-- what is done with a reader and a writer, and how the run ends
abbrev pub Doing : Type 1
Doing = ReadStream → WrittenStream → Result Ended CliFault → Type 0

-- it is done over the bytes that the file at a path holds
pub record IsOverFile (Holds : Option (List ℕ) → Type 0) (IsDone : Doing)
    (writer : WrittenStream) (outcome : Result Ended CliFault) : Type 0 where
  pub file : ReadStream
  pub held : Holds file.input
  pub over : IsDone file writer outcome

-- it is done over the input that is named: over the reader's, or over a file, and then nothing of the reader is read. A file
-- that can't be opened is a read that failed
abbrev pub IsOver : (List ℕ → Type 0) → (List ℕ → Option (List ℕ) → Type 0) → Input → Doing → Doing
IsOver Lacks Holds Standard IsDone reader writer outcome = IsDone reader writer outcome
IsOver Lacks Holds (File path) IsDone reader writer outcome =
    (Lacks (string_bytes path) × GaveUpFirst Read reader writer outcome)
    ⊎ (IsUnread reader × IsOverFile (Holds (string_bytes path)) IsDone writer outcome)

-- what the words ask for is done, or there was no memory to read them in
abbrev pub IsAnswered : (Request → Type 0) → (Request → Doing) → Doing
IsAnswered asks IsDone reader writer outcome =
    GaveUpFirst Memory reader writer outcome
    ⊎ ((request : Request) × asks request × IsDone request reader writer outcome)

-- a whole program over this reader and writer: it does what its words ask for, writes its last line if it gave up, and
-- answers the status of that
pub record IsProgramRun (asks : Request → Type 0) (IsDone : Request → Doing)
    (reader : ReadStream) (writer : WrittenStream) (status : ℕ) : Type 0 where
  pub outcome : Result Ended CliFault
  pub written : Option (List ℕ)
  pub mark : Bool
  pub carried_out : IsAnswered asks IsDone reader
      (writing writer.old written writer.was_marked mark) outcome
  pub ended : IsEnded outcome written writer.new
  pub marked : IsEndMarked outcome mark writer.is_marked
  pub answered : status ≡ exit_status outcome
