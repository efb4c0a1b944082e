use Rattle.std.proofs.Common.{◌≡◌, true, take}
use Rattle.std.specs.List.{list_all}
use Rattle.dine_lines.specs.Names.{is_name_byte}
use Rattle.dine_lines.proofs.Padded.{filled}
use Rattle.dine_lines.proofs.name.few_letters.Given as goal

-- the bytes so far may stand in a name, and are kept
abbrev pub invariant-loop-index : goal.invariant-loop-index
invariant-loop-index l = (list_all is_name_byte (take l.index l.text) ≡ true) × (l.letters ≡ filled l.index 16 l.text)
