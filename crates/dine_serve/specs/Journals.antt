-- Which lines of what is served are those of a journal.
use Rattle.std.specs.Prelude.{ℕ, ◌==◌, Bool, true, not, ◌||◌, List, [], ◌∷◌}

-- the line begins neither with `?`, as an answer to a question does, nor with `!`, as what is said of a fault does, nor
-- with `=`, as the answer to a request that comes again does
abbrev pub is_of_journal : List ℕ → Bool
is_of_journal [] = true
is_of_journal (byte ∷ bytes) = not (byte == 63 || byte == 33 || byte == 61)
