-- The fault of a run that gave up since the text of a journal was not written to its end.
use Rattle.dine_journal.specs.declared.text.TextFault.{TextFault}
use Rattle.dine_journal.specs.declared.text.TextFault.TheVariants as text
use Rattle.dine_streams.specs.declared.ended.CliFault.{CliFault}
use Rattle.dine_streams.specs.declared.ended.CliFault.TheVariants.{Memory, Write}

-- the text of a journal was not written to its end
abbrev pub fault_of_text : TextFault → CliFault
fault_of_text text.Write = Write
fault_of_text text.Memory = Memory
