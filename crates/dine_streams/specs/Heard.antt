-- What was heard of a stream.
use Rattle.std.specs.Prelude.{◌≡◌, ℕ, ◌<◌, Bool, false, true, nat_lt, List, [], length, Option}
use Rattle.std.specs.Io.KnownBytes.{Consumes, IsAtEnd}
use Rattle.dine_streams.specs.Lines.{begun_line, ended_lines, kept_of}

-- the text of the lines that were ended last, each with its line feed, and what is kept of the line after them
pub record LineBuffer : Type 0 where
  pub lines : List ℕ
  pub begun : List ℕ

-- the lines are forgotten, and what was heard after them isn't
pub record Forgets (old new : LineBuffer) : Type 0 where
  pub lines : new.lines ≡ []
  pub begun : new.begun ≡ old.begun

-- some bytes more were heard: the lines are those that they end, and the front of the next is kept. None came only at the
-- end
pub record Hears (old new : LineBuffer) (before after : Option (List ℕ)) (came : Bool) : Type 0 where
  pub bytes : List ℕ
  pub consumed : Consumes before after bytes
  pub lines : ended_lines [] new.lines ≡ ended_lines old.begun bytes
  pub begun : new.begun ≡ kept_of (begun_line old.begun bytes)
  pub some : came ≡ true → 0 < length bytes
  pub none : came ≡ false → bytes ≡ []
  pub at_end : came ≡ false → IsAtEnd after

-- some bytes more were heard, and there are so many of them
pub record HearsBytes (old new : LineBuffer) (before after : Option (List ℕ)) (count : ℕ) : Type 0 where
  pub hears : Hears old new before after (nat_lt 0 count)
  pub counted : length hears.bytes ≡ count
