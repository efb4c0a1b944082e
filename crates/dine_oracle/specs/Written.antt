-- What stands in the place for an output, and what is answered beside the program's exit statuses.
use Rattle.std.specs.Prelude.{◌≡◌, ℕ, ◌≤◌, Bool, if◌then◌else◌, List, [], ◌++◌, length, drop, Some}
use Rattle.dine_replay.specs.AuditOutput.{IsAudited}
use Rattle.dine_streams.specs.Ending.{status_of}
use Rattle.dine_streams.specs.declared.ended.Ended.{Ended}
use Rattle.dine_lines.specs.declared.print.Print.{Print}
use Rattle.dine_lines.specs.declared.print.Print.TheVariants.{Replies, Journal}

-- the run gave up: the first number beyond the statuses of those that came to their end
abbrev pub gave_up : ℕ
gave_up = 3

-- the limits are out of their ranges
abbrev pub bad_limits : ℕ
bad_limits = 4

-- the place for the output is too short
abbrev pub too_short : ℕ
too_short = 5

-- what a run writes that is asked for its journal, or is not
abbrev pub print_for : Bool → Print
print_for journal = if journal then Journal else Replies

-- the text stands at the front of the place, with what was there behind it, and its length is told
abbrev pub IsWritten : List ℕ → List ℕ → List ℕ → ℕ → Type 0
IsWritten text old new count =
    (count ≡ length text) × (length text ≤ length old) × (new ≡ text ++ drop (length text) old)

-- so does the output of the answer that the journal's text has, and this is the status of an audit with that answer
abbrev pub IsAuditWritten : List ℕ → ℕ → List ℕ → List ℕ → ℕ → Type 0
IsAuditWritten journal status old new count =
    (ended : Ended) × (text : List ℕ) × (status ≡ status_of ended)
    × IsAudited journal (Some []) (Some text) ended × IsWritten text old new count
