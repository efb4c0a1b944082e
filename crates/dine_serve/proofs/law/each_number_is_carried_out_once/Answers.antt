use Rattle.dine_serve.proofs.Words.{standing_at}
use Rattle.dine_serve.proofs.Once.{carried_out-once}
use Rattle.dine_serve.proofs.law.each_number_is_carried_out_once.Goals as goal

pub returns : goal.returns
returns c table passes pass number lines = carried_out-once pass number (standing_at table passes) lines
