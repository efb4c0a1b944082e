-- The lines of a stream, however its reads cut it.
use Rattle.std.specs.Prelude.{ℕ, ◌==◌, nat_lt, if◌then◌else◌, List, [], ◌∷◌, ◌++◌, length, map, take, ◌+◌, Option, Some, None}
use Rattle.dine_words.specs.Ranges.{most_bytes}

-- the lines that the bytes end, without their line feeds. Of the first line this was heard before them
abbrev pub ended_lines : List ℕ → List ℕ → List (List ℕ)
ended_lines begun [] = []
ended_lines begun (byte ∷ bytes) =
    if byte == 10 then begun ∷ ended_lines [] bytes else ended_lines (begun ++ byte ∷ []) bytes

-- what was heard, after them, of the line that has no line feed yet
abbrev pub begun_line : List ℕ → List ℕ → List ℕ
begun_line begun [] = begun
begun_line begun (byte ∷ bytes) =
    if byte == 10 then begun_line [] bytes else begun_line (begun ++ byte ∷ []) bytes

-- a line as it is seen: nothing of one that is too long
abbrev pub seen_of : List ℕ → Option (List ℕ)
seen_of line = if nat_lt most_bytes (length line) then None else Some line

-- the lines that the bytes end, as they are seen
abbrev pub seen_lines : List ℕ → List ℕ → List (Option (List ℕ))
seen_lines begun bytes = map seen_of (ended_lines begun bytes)

-- what is kept of a line that has begun: all of it, or so much that it is known to be too long
abbrev pub kept_of : List ℕ → List ℕ
kept_of begun = take (most_bytes + 1) begun
