-- The two ends of a record.
use Rattle.std.specs.Prelude.{Bool, true, false}
use Rattle.dine_forks.specs.declared.record.End.{End}
use Rattle.dine_forks.specs.declared.record.End.TheVariants as end

-- the end is the one that its fork calls first
abbrev pub is_first : End → Bool
is_first end.First = true
is_first end.Second = false
