-- The numbers by which faults are called.
use Rattle.std.specs.Prelude.{ℕ}
use Rattle.dine_journal.specs.declared.text.TextFault.{TextFault}
use Rattle.dine_journal.specs.declared.text.TextFault.TheVariants as text

-- the number of a fault of writing
abbrev pub number_of_text_fault : TextFault → ℕ
number_of_text_fault text.Write = 1
number_of_text_fault text.Memory = 2
