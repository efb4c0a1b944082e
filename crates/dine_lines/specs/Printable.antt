-- What a terminal prints.
use Rattle.std.specs.Prelude.{ℕ, Bool, if◌then◌else◌, ◌&&◌, nat_le}

-- a printable letter of ASCII, from the space to the tilde
abbrev pub is_printable : ℕ → Bool
is_printable byte = nat_le 32 byte && nat_le byte 126

-- the byte itself where it is printable, and else a question mark
abbrev pub shown : ℕ → ℕ
shown byte = if is_printable byte then byte else 63
