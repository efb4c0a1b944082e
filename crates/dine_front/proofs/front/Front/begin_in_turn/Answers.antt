use Rattle.dine_front.proofs.front.Front.begin_in_turn.Goals as goal

-- the one call is made in the end, by the pass as it was
pub returns-clause-done : goal.returns-clause-done
returns-clause-done g c = c.act_answered.ensures.done

-- the pass has seen what that call showed
pub returns-clause-sees : goal.returns-clause-sees
returns-clause-sees g c = c.act_answered.ensures.sees

-- and has the call's entry
pub returns-clause-entry : goal.returns-clause-entry
returns-clause-entry g c = c.act_answered.ensures.entry

-- a call that finds no memory leaves it as it was
pub returns-clause-unchanged : goal.returns-clause-unchanged
returns-clause-unchanged g c = c.act_answered.ensures.unchanged
