-- What the methods of an arbiter cite of what they see.
use Rattle.dine_arbiter.proofs.Words.{and_le_r, present}
use Rattle.dine_arbiter.proofs.After.{holds_begin, met_finish, met_hunger, reach, reach_begin, reach_in, reach_join, seated_begin, seated_in, seen_before, seen_ends, seen_joined, seen_neighbours, seen_newcomer, seen_ready, seen_same, seen_state}
use Rattle.dine_arbiter.proofs.BesideHungry.{absent_alone, seen_hungry}
use Rattle.dine_arbiter.proofs.Following.{early_passed, told_refusal, two_passed}
use Rattle.dine_arbiter.proofs.SlotWalks.{withdrawal_meets}
use Rattle.dine_arbiter.proofs.Stamps.{first_free_free}
use Rattle.dine_arbiter.proofs.Walks.{is_some-first_id}

-- they are tried where a goal has no answer
pub ruleset seen = (absent_alone, and_le_r, early_passed, first_free_free, holds_begin, is_some-first_id, met_finish, met_hunger, present, reach, reach_begin, reach_in, reach_join, seated_begin, seated_in, seen_before, seen_ends, seen_hungry, seen_joined, seen_neighbours, seen_newcomer, seen_ready, seen_same, seen_state, told_refusal, two_passed, withdrawal_meets)
