use Rattle.std.proofs.Common.{◌≡◌, ◌++◌, map, take}
use Rattle.dine_lines.specs.Printable.{shown}
use Rattle.dine_lines.proofs.explain.remark.Remark.push.Given as goal

-- the bytes so far are said
abbrev pub invariant-loop-byte : goal.invariant-loop-byte
invariant-loop-byte l = l.self ≡ l.initial.self ++ map shown (take l.byte-index l.text)
