-- Who waits for which task, and whose wait has ended.
use Rattle.std.specs.Prelude.{Bool, false, not, if◌then◌else◌, List, Option, Some, None, is_some, replicate}
use Rattle.std.specs.List.{list_any}
use Rattle.dine_words.specs.declared.task.Task.{Task}
use Rattle.dine_table.specs.Table.{Table}
use Rattle.dine_table.specs.Calls.{has_to_wait}

-- of what a pass waits for, if it waits: its turn has come
abbrev pub has_turn : Table → Option Task → Bool
has_turn t None = false
has_turn t (Some u) = not (has_to_wait t u)

-- what a pass goes on to wait for
abbrev pub still_awaited : Table → Option Task → Option Task
still_awaited t None = None
still_awaited t (Some u) = if has_to_wait t u then Some u else None

-- somebody waits
abbrev pub somebody_waits : List (Option Task) → Bool
somebody_waits waiting = list_any is_some waiting

-- none of the passes waits. There are as many places as MAX_PASSES of src/naming.rt says, since a front has no more
abbrev pub nobody_waits : List (Option Task)
nobody_waits = replicate 16 None
