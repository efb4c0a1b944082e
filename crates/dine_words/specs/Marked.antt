-- What is seen of a marked reader or writer.
use Rattle.std.specs.Prelude.{Bool}
use Rattle.dine_words.specs.declared.mark.Marked.{Marked}

-- the reader or writer itself
abbrev pub inner_of : {T : Type 0} → Marked T → T
inner_of m = m.inner

-- a read or a write failed, or a write took none of some bytes
abbrev pub is_marked : {T : Type 0} → Marked T → Bool
is_marked m = m.marked
