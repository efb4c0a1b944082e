use Rattle.dine_table.proofs.WaitingLemmas.{blockers_exactly, ready_where_unblocked}
use Rattle.dine_table.proofs.law.a_hungry_task_may_begin_exactly_where_nobody_blocks_it.Goals as goal

pub returns-clause-blockers : goal.returns-clause-blockers
returns-clause-blockers c t u v hungry = blockers_exactly t u hungry v

pub returns-clause-ready : goal.returns-clause-ready
returns-clause-ready c t u hungry = ready_where_unblocked t u hungry
