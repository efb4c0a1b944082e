use Rattle.dine_table.proofs.Transitions.{found_before, left_after}
use Rattle.dine_table.proofs.law.an_accepted_call_makes_its_transition.Goals as goal

pub returns-clause-before : goal.returns-clause-before
returns-clause-before c t call asked is accepted = found_before t call asked is accepted

pub returns-clause-after : goal.returns-clause-after
returns-clause-after c t call asked is accepted = left_after t call asked is accepted
