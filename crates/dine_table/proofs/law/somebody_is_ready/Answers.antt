use Rattle.dine_table.proofs.NextReady.{next_ready-some}
use Rattle.dine_table.proofs.law.somebody_is_ready.Goals as goal

pub returns : goal.returns
returns c t u sound hungry nobody = next_ready-some t u sound hungry nobody
