use Rattle.dine_table.proofs.Beginning.{begins_exactly, ready_exactly}
use Rattle.dine_table.proofs.law.a_task_begins_exactly_where_it_may.Goals as goal

pub returns-clause-ready : goal.returns-clause-ready
returns-clause-ready c t u sound = ready_exactly t u sound

pub returns-clause-reply : goal.returns-clause-reply
returns-clause-reply c t u sound = begins_exactly t u sound
