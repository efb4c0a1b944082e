-- The fault of a run that gave up, by what gave up in it.
use Rattle.dine_streams.specs.declared.input.InputFault.{InputFault}
use Rattle.dine_streams.specs.declared.input.InputFault.TheVariants as input
use Rattle.dine_streams.specs.declared.ended.CliFault.{CliFault}
use Rattle.dine_streams.specs.declared.ended.CliFault.TheVariants.{Memory, Read}

-- the input was not read to its end
abbrev pub fault_of_input : InputFault → CliFault
fault_of_input input.Read = Read
fault_of_input input.Memory = Memory
