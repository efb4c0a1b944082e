use Rattle.dine_table.proofs.WaitingLemmas.{next_ready-head, ready_apart, ready_members}
use Rattle.dine_table.proofs.law.the_next_ready_is_the_first_of_all.Goals as goal

pub returns-clause-members : goal.returns-clause-members
returns-clause-members c t u = ready_members t u

pub returns-clause-apart : goal.returns-clause-apart
returns-clause-apart c t u v sound u_ready v_ready = ready_apart t u v sound u_ready v_ready

pub returns-clause-first : goal.returns-clause-first
returns-clause-first c t = next_ready-head t
