use denote.RattleType.{RattleType}
use denote.Param.Send.{IsSync}
use Rattle.dine_forks.proofs.Crosses.{Cells-sync}
use Rattle.dine_forks.specs.contracts.lists.cells.Cells.{the_row}

-- the places may be shared with another thread where an item may
pub sync : (R : RattleType) → IsSync R → IsSync (the_row R)
sync = Cells-sync
