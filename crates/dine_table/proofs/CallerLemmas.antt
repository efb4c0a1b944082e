-- What the proofs of other crates cite of the table of last meals: all of it, by what it is about.

-- tasks are the same, or they are not
pub use Rattle.dine_table.proofs.Tasks.{same_task-refl, same_task-sym, same_task-true}
-- what an accepted call found
pub use Rattle.dine_table.proofs.Accepted.{absent_differs, asked_if_done, found, join_or_done, newcomer_absent, or_else-None, passed, present, ready_if, same_state-true}
-- the order of last meals, and what calls leave of it
pub use Rattle.dine_table.proofs.Order.{diner_put_in-state, diner_put_in-task, last-stands_before, stands_before-append, stands_before-other_way, stands_before-with_state, stands_before-without, state_in-append_other, state_in-append_same, state_in-with_state_other, state_in-with_state_same, state_in-without_other, state_in-without_same}
-- slots that are used, and the first that is free
pub use Rattle.dine_table.proofs.Slots.{free_slot-unused, is_used, newcomers_slot-free, newcomers_slot-lt, one_in_slot}
-- who is in conflict with whom
pub use Rattle.dine_table.proofs.Neighbours.{conflict_differs, conflict_either_way, conflict_present, neighbour_passes, neighbours_rest}
-- the list of the neighbours of a task
pub use Rattle.dine_table.proofs.NeighbourList.{neighbours_exactly}
-- tables that calls lead to are sound
pub use Rattle.dine_table.proofs.Sound.{sound_after, sound_after_call, sound_at_opening}
-- tables after a history, and the histories that lead there
pub use Rattle.dine_table.proofs.Histories.{IsLegalFrom-append, table_from-append, table_from-split}
-- the clock of a table
pub use Rattle.dine_table.proofs.Clock.{clock-after_call-ge, clock-from-ge, limits-after_call, limits-from}
-- whose turn is next
pub use Rattle.dine_table.proofs.NextReady.{next_ready-ready, next_ready-some}
-- meals that others begin meanwhile
pub use Rattle.dine_table.proofs.Overtaking.{hungry_after, overtaken-le}
-- lists
pub use Rattle.dine_table.proofs.Lists.{AllByRecursion-filter, AllByRecursion-push, slice_get-set_other, slice_get-set_same}
