use Rattle.dine_table.proofs.NextReady.{next_ready-first, next_ready-none, next_ready-ready}
use Rattle.dine_table.proofs.law.the_next_ready_ate_earliest.Goals as goal

pub returns-clause-ready : goal.returns-clause-ready
returns-clause-ready c t v next = next_ready-ready t v next

pub returns-clause-earliest : goal.returns-clause-earliest
returns-clause-earliest c t v w next ready = next_ready-first t v w next ready

pub returns-clause-none : goal.returns-clause-none
returns-clause-none c t w nobody = next_ready-none t w nobody
