-- What a line that is handed out tells of it.
use Rattle.std.specs.Prelude.{ℕ, List, Option, Some, None}
use Rattle.dine_streams.specs.declared.handed_line.Line.{Line}
use Rattle.dine_streams.specs.declared.handed_line.Line.TheVariants.{Whole, TooLong}

-- all of it, or nothing where it is too long
abbrev pub handed : Line → Option (List ℕ)
handed (Whole bytes) = Some bytes.now
handed TooLong = None
