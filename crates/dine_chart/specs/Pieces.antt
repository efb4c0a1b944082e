-- Pieces of text that all kinds of pictures are made of.
use Rattle.std.specs.Prelude.{ℕ, ◌==◌, if◌then◌else◌, List, [], ◌++◌, codes, decimal}

-- how many there are of something: its word gets an s, but for one
unfoldable pub counted : ℕ → List ℕ → List ℕ
counted n word = decimal n ++ word ++ (if n == 1 then [] else codes "s")

-- a point behind a text: how far from the left and from the top
unfoldable pub point_text : List ℕ → ℕ → ℕ → List ℕ
point_text opening x y = opening ++ decimal x ++ codes " " ++ decimal y

-- a number behind a text
unfoldable pub numbered : List ℕ → ℕ → List ℕ
numbered text n = text ++ decimal n
