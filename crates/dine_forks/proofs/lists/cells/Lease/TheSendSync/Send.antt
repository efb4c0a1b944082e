use denote.RattleType.{RattleType}
use denote.Param.Send.{IsSend, Frees}
use Rattle.std.specs.declared.alloc.Allocator.{Ghosts}
use Rattle.dine_forks.proofs.Crosses.{Lease-send}
use Rattle.dine_forks.specs.contracts.lists.cells.Lease.{the_row}

-- the right to free the block may move to another thread where the allocator may
pub send : (R A : RattleType) (g : Ghosts A.Denot) → IsSend A → Frees g g.dealloc_token → IsSend (the_row R A g)
send R A g s = Lease-send R A g
