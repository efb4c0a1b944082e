-- Whether a handle holds an arbiter, and which.
use Rattle.std.specs.Prelude.{◌≡◌, true}
use Rattle.dine_embed.specs.declared.handle.Handle.{Handle}

-- it holds an arbiter
abbrev pub IsOpen : Handle → Type 0
IsOpen handle = handle.holds ≡ true

-- it holds an arbiter as before: the same table, forks and messages
abbrev pub StaysOpen : Handle → Handle → Type 0
StaysOpen before after = IsOpen after × (after.value ≡ before.value)
