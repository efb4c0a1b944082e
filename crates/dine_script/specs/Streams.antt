-- What an engine says of the reader and the writer that it is given, and of a text that it writes as it is.
use Rattle.std.specs.Prelude.{ℕ, List, Option}
pub use Rattle.dine_streams.specs.Inputs.{IsMarkedOrLong}
pub use Rattle.dine_streams.specs.Marks.{IsMarked}
use Rattle.dine_streams.specs.declared.ended.CliFault.{CliFault}
use Rattle.dine_streams.specs.declared.ended.CliFault.TheVariants.{Memory, Read, Write}
use Rattle.dine_streams.specs.Written.{AppendsPartOf}

-- what was written of a text that gave up with this fault: only a failed write ends it
abbrev pub IsTextLeft : List ℕ → CliFault → Option (List ℕ) → Option (List ℕ) → Type 0
IsTextLeft text Memory old new = ⊥
IsTextLeft text Read old new = ⊥
IsTextLeft text Write old new = AppendsPartOf old new text
