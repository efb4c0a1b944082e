use denote.RattleType.{RattleType}
use denote.Param.Send.{IsSend}
use Rattle.dine_forks.proofs.Crosses.{Cells-send}
use Rattle.dine_forks.specs.contracts.lists.cells.Cells.{the_row}

-- the places may move to another thread where an item may
pub send : (R : RattleType) → IsSend R → IsSend (the_row R)
send = Cells-send
