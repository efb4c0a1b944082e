-- How a buffer of lines is filled.
use Rattle.std.specs.Prelude.{◌≡◌, ℕ, ◌+◌, ◌-◌, ◌≤◌, List, [], length, take, drop}
use Rattle.dine_streams.specs.declared.buffer.TheConstants.{MOST_KEPT, ROOM}
use Rattle.dine_streams.specs.Lines.{begun_line, ended_lines}

-- whole lines stand in front of the first place, and from there to the second the front of a line, of which no more is kept
-- than tells that it is too long. A whole read has room behind it
pub record IsRoom (room : List ℕ) (whole end : ℕ) : Type 0 where
  pub size : length room ≡ ROOM
  pub order : whole ≤ end
  pub within : end ≤ length room
  pub few : end ≤ whole + MOST_KEPT
  pub lines : begun_line [] (take whole room) ≡ []
  pub begun : ended_lines [] (take (end - whole) (drop whole room)) ≡ []
