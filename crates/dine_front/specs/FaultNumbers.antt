-- The numbers by which faults are called.
use Rattle.std.specs.Prelude.{ℕ}
use Rattle.dine_front.specs.declared.front_fault.FrontFault.{FrontFault}
use Rattle.dine_front.specs.declared.front_fault.FrontFault.TheVariants as call
use Rattle.dine_front.specs.declared.front_fault.OpenFault.{OpenFault}
use Rattle.dine_front.specs.declared.front_fault.OpenFault.TheVariants as opening

-- the number of a fault of opening
abbrev pub number_of_open_fault : OpenFault → ℕ
number_of_open_fault opening.Count = 1
number_of_open_fault opening.Memory = 2
number_of_open_fault opening.NoPlace = 3

-- the number of a fault of a call
abbrev pub number_of_front_fault : FrontFault → ℕ
number_of_front_fault call.Memory = 1
number_of_front_fault call.Stopped = 2
