use denote.RattleType.{RattleType}
use denote.Param.Send.{IsSync}
use Rattle.std.specs.declared.alloc.Allocator.{Ghosts}
use Rattle.dine_forks.proofs.Crosses.{Lease-sync}
use Rattle.dine_forks.specs.contracts.lists.cells.Lease.{the_row}

-- the right to free the block may always be shared
pub sync : (R A : RattleType) (g : Ghosts A.Denot) → IsSync (the_row R A g)
sync = Lease-sync
