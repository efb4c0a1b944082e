-- How far the lines of an output, or its bytes, were written.
use Rattle.std.specs.Prelude.{ℕ, List, take, Option}
use Rattle.std.specs.Io.KnownBytes.{Appends}
use Rattle.dine_words.specs.Texts.{text_of_lines}

-- known bytes grow by the first of the lines, each whole
abbrev pub AppendsLinesOf : Option (List ℕ) → Option (List ℕ) → List (List ℕ) → Type 0
AppendsLinesOf old new lines = (n : ℕ) × Appends old new (text_of_lines (take n lines))

-- known bytes grow by the first of the bytes
abbrev pub AppendsPartOf : Option (List ℕ) → Option (List ℕ) → List ℕ → Type 0
AppendsPartOf old new bytes = (n : ℕ) × Appends old new (take n bytes)
