use Rattle.dine_journal.proofs.Boards.{board-shows}
use Rattle.dine_journal.proofs.LastLeft.{state_is_last_left}
use Rattle.dine_journal.proofs.Staying.{present_if_stayed, stayed_if_present}
use Rattle.dine_journal.proofs.law.replies_tell_the_states.Goals as goal

pub returns-clause-present : goal.returns-clause-present
returns-clause-present c limits history u legal = (stayed_if_present limits history u legal, present_if_stayed limits history u legal)

pub returns-clause-state : goal.returns-clause-state
returns-clause-state c = state_is_last_left

pub returns-clause-board : goal.returns-clause-board
returns-clause-board c = board-shows
