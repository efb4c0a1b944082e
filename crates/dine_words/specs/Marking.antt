-- How a reader or a writer remembers that a call of it failed.
use Rattle.std.specs.Prelude.{ℕ, ◌==◌, Bool, true, not, ◌&&◌, ◌||◌, List, length, Result, Ok, Err}
use Rattle.dine_words.specs.declared.mark.Failed.{Failed}

-- the mark after a read: a failed read sets it, and every other answer leaves it
abbrev pub mark_after_read : Bool → Result ℕ Failed → Bool
mark_after_read mark (Ok n) = mark
mark_after_read mark (Err failed) = true

-- the mark after a write of the bytes: a failed write sets it, and so does one of some bytes that takes none; every other
-- answer leaves it
abbrev pub mark_after_write : Bool → Result ℕ Failed → List ℕ → Bool
mark_after_write mark (Ok n) bytes = mark || (n == 0 && not (length bytes == 0))
mark_after_write mark (Err failed) bytes = true
