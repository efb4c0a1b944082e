-- The faults of a line.
use Rattle.std.specs.Prelude.{ℕ, List, codes}
use Rattle.dine_lines.specs.declared.line_fault.LineFault.{LineFault}
use Rattle.dine_lines.specs.declared.line_fault.LineFault.TheVariants as fault

-- the kind of a fault, as it stands in output
abbrev pub fault_text : LineFault → List ℕ
fault_text fault.Words = codes "words"
fault_text fault.Name = codes "name"
fault_text fault.Bound = codes "bound"
fault_text fault.Unbound = codes "unbound"
