-- The words and lemmas that the answers of functions name, from one place.
pub use Rattle.dine_arbiter.proofs.Words.{Apart, AreWords, Bool, Count, Fork, ForkBook, ForkRecord, HasSlot, IsNonDecreasingBy-from_sort_by_key, IsSearch, IsSound, IsWalk, List, None, Option, Seat, Some, Task, Thinking, and_le_l, ap, append-nil, arith, at-record, beq, book_is, cases_Bool, common_steps, eqb, false, filter, fork_sent, get_or, get_or-map, has_both, has_hungry_neighbour, holder, holds, if◌then◌else◌, inl, inr, is_end, is_free, is_hungry, is_hungry_beside, is_none, is_some, length, length-set, list_any, map, map-set, map-set_same, nat_tests, neighbour_at, next_ready-some, nil_from_length, not, present, pushes, ready_slots, refl, refusal_of, replicate, requester, rest_of, rules, same_state, seat_state, seats_put, set, slot_list, slots_left, stamp_at, state_of, state_of_seat, states_by, subst, sum_by, sym, task_at, token_sent, true, weight_of, withdrawal_messages_of, ℕ, ◌&&◌, ◌*◌, ◌++◌, ◌+◌, ◌-◌, ◌<◌, ◌^◌, ◌||◌, ◌∙◌, ◌≡◌, ◌≤◌}
unfoldable pub use Rattle.dine_arbiter.proofs.Words.{messages_left}
pub use Rattle.dine_arbiter.proofs.After.{after_join, after_separate, left, refused, seated_in, seen_by_slot, seen_joined, seen_neighbours, seen_seat, table_is, told_finish, told_hunger, told_withdrawal}
pub use Rattle.dine_arbiter.proofs.AllReady.{all_ready}
pub use Rattle.dine_arbiter.proofs.BesideHungry.{calm_beside, seen_hungry}
pub use Rattle.dine_arbiter.proofs.Blocking.{seen_blockers}
pub use Rattle.dine_arbiter.proofs.Following.{early_refused, two_passed}
pub use Rattle.dine_arbiter.proofs.Kept.{carried-begin, carried-finish, carried-hungry, carried-withdraw}
pub use Rattle.dine_arbiter.proofs.Lawful.{state-seated}
pub use Rattle.dine_arbiter.proofs.Members.{carried-leave}
pub use Rattle.dine_arbiter.proofs.PassedOver.{earliest_of, search_ends, seat_is}
pub use Rattle.dine_arbiter.proofs.Searching.{nothing_left, slot_kept, slot_left, slot_within, word_fewer, word_kept, word_left, word_within}
pub use Rattle.dine_arbiter.proofs.Seated.{get_or-equal, map_replicate, same-free, same-state, told-set}
pub use Rattle.dine_arbiter.proofs.Settling.{sends}
pub use Rattle.dine_arbiter.proofs.SlotWalks.{settling_cost, walk_costs}
pub use Rattle.dine_arbiter.proofs.Walks.{apart-without, between-used, fewer-without, filter-all, filter-none, first-listed, is_some-first_id, none-left, others-without, read_on, shorter}
