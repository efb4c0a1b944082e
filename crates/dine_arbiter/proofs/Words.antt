-- The words of other modules that the proofs of this crate name.
pub use Rattle.std.proofs.Common.{Bool, IsSome, IsTrue, List, None, Option, Some, [], add-one, add-zero, ap, append-nil, arith, bit_and, cond, eqb, false, get_or, get_or-set_other, get_or-set_same, if◌then◌else◌, inl, inr, is_none, is_some, leb, length, length-append, ltb, map, min, nat_lt, not, refl, replicate, rules, set, subst, suc, sym, true, unwrap_or, w64, zero, ℕ, ◌%◌, ◌&&◌, ◌*◌, ◌++◌, ◌+◌, ◌-◌, ◌/◌, ◌<◌, ◌==◌, ◌^◌, ◌||◌, ◌∙◌, ◌∷◌, ◌≡◌, ◌≢◌, ◌≤◌, ◌⊎◌}
pub use Rattle.dine_arbiter.specs.Arbitration.{Arbiter, CarriesOut, IsKeptArbiter, early_refusal_of, forks_of, most_messages, refusal_of_two, slots_of, table_of}
pub use Rattle.dine_arbiter.specs.Edge.{Fork, ForksAgree, IsQuiet, ReachedBy, Settles, SettlesAround, SettlesAt, SettlesEnd, agrees, agrees_at, asks, dirtied_around, fork_sent, has_both, holder, holds_all, is_lawful, messages_within, one_more, requester, same_bool, settled, step_of, step_or_stay, token_sent, withdrawal_messages, withdrawal_messages_around, withdrawn, withdrawn_around, yields}
unfoldable pub use Rattle.dine_arbiter.specs.Edge.{messages_left}
pub use Rattle.dine_arbiter.specs.Forks.{ChangesForks, ChangesForksUnless, ForksFollow, forks_kept, new_fork}
pub use Rattle.dine_arbiter.specs.Hunger.{IsTold, has_hungry_neighbour, hungry_slots, is_hungry, is_hungry_beside}
pub use Rattle.dine_arbiter.specs.Records.{ForkId, ForkRecord, MayLink, conflict_of, fork_of_new, messages_of_new, neighbour_at, withdrawal_messages_of, withdrawn_at, withdrawn_fork}
pub use Rattle.dine_arbiter.specs.Searches.{IsSearch, holds_all_at, is_ahead, is_ready_slot, ready_slots, slots_left, weight_of}
pub use Rattle.dine_arbiter.specs.Seats.{ArePlaced, Diner, Eating, HasSlot, Hungry, IsPlaced, Seat, StampsDiffer, State, Task, Thinking, by_stamp, diner_stamped, first_free, is_free, is_sooner_at, is_stamped_before, put_in_seat, seat_at, seat_state, seats_last, seats_put, stamp_at, stamped, stands_before_at, state_at, state_in_seat, state_of_seat, task_at, task_in_seat}
pub use Rattle.dine_arbiter.specs.Turns.{has_dirty_pair, has_token_alone, settles, states_by}
pub use Rattle.dine_arbiter.specs.declared.search.Search.{Search}
pub use Rattle.dine_forks.proofs.CallerLemmas.{IsWalk, any-filter, at-record, at-visit, book_is, first-used, met-anyhow, once-filter, pushes, reads, rest_of, same_id-refl, same_id-true, sum_by-le, without-absent}
pub use Rattle.dine_forks.proofs.SlotBits.{lowest}
pub use Rattle.dine_forks.specs.Book.{EachIdOnce, EachPairOnce, ForkBook, are_joined, behind, changed_where, dirtied, first_id, has_id, holds, is_end, is_in_use, other_end, record_of, slot_list}
pub use Rattle.dine_forks.specs.Counts.{count_in, is_asked, lacks, one_if}
pub use Rattle.dine_forks.specs.Held.{dirtied_at, is_asked_of, is_non_holder}
pub use Rattle.dine_forks.specs.SlotSets.{AreMembers, AreWords, first_member}
pub use Rattle.dine_forks.specs.Walking.{is_met_at, is_reached, is_reached_at, walked_at, walked_fork}
pub use Rattle.dine_forks.specs.declared.counts.Count.{Count}
pub use Rattle.dine_forks.specs.declared.rules.Reach.{Reach}
pub use Rattle.dine_table.proofs.CallerLemmas.{absent_differs, diner_put_in-state, diner_put_in-task, found, free_slot-unused, last-stands_before, newcomer_absent, newcomers_slot-lt, next_ready-ready, next_ready-some, one_in_slot, or_else-None, passed, present, ready_if, same_state-true, same_task-refl, same_task-sym, same_task-true, sound_after_call, sound_at_opening, stands_before-append, stands_before-other_way, stands_before-with_state, stands_before-without, state_in-append_other, state_in-append_same, state_in-with_state_other, state_in-with_state_same, state_in-without_other, state_in-without_same}
pub use Rattle.dine_table.proofs.NextReady.{next_ready-first, next_ready-none}
pub use Rattle.dine_table.proofs.Slots.{used_before}
pub use Rattle.dine_table.specs.Calls.{acceptance_of, changed_by, diner_put_in, free_slot_from, has_no_room, is_absent, is_full, moved_last, newcomer, or_else, refusal_of, refusal_unless, reply_of, reply_unless, table_after_call, with_state, without}
pub use Rattle.dine_table.specs.Messages.{conflict_cost, cost_if_accepted, cost_of, hunger_cost, withdrawal_cost}
pub use Rattle.dine_table.specs.Sound.{EachOnce, EndsDiffer, EndsPresent, IsSound}
pub use Rattle.dine_table.specs.Table.{Table, are_in_conflict, has_end, is_between, is_found, is_in, is_ready, keeps_waiting, neighbours_in, neighbours_of, next_ready_of, same_state, same_task, sooner, stands_before, state_in, state_of}
pub use Rattle.dine_table.specs.Waiting.{blockers_of, ready_of}
pub use Rattle.dine_words.specs.declared.call.Call.{Call}
pub use Rattle.dine_words.specs.declared.call.Refusal.{Refusal}
pub use Rattle.dine_words.specs.declared.call.Refusal.TheVariants.{Apart, Full}
pub use Rattle.dine_words.specs.declared.call.Reply.{Reply}
pub use Rattle.dine_words.specs.declared.call.Reply.TheVariants.{Refused}
pub use Rattle.dine_words.specs.declared.limits.Limits.{Limits}
pub use Rattle.std.proofs.Math.Bool.{beq}
pub use Rattle.std.proofs.Math.ListN.{get_or-map, length-replicate, length-set}
pub use Rattle.std.proofs.Math.Seq.{map-set_same}
pub use Rattle.std.proofs.lemmas.Bool.{MatchBool-at_false, MatchBool-at_true, and_from, and_parts, cases_Bool, cases_cond, cases_eq, cases_lt, eq-eqb, eqb-false, eqb-true, false≢true, le-ltb, leb-false, lt-ltb, ne_eqb, not-true, or_cases, or_parts, true≢false}
pub use Rattle.std.proofs.lemmas.Bool.Decides.{nat_tests}
pub use Rattle.std.proofs.lemmas.Grind.{common_steps}
pub use Rattle.std.proofs.lemmas.List.{ext_get_or, get_or_past, length-map, map-append, map-set, nil_from_length, set-get_or}
pub use Rattle.std.proofs.lemmas.List.Elements.{All-from_recursion, filter-append, filter_map-append, recursion_from_All}
pub use Rattle.std.proofs.lemmas.List.Sorted.{All-permutation, IsNonDecreasingBy-from_sort_by_key, sum_by-IsPermutation}
pub use Rattle.std.proofs.lemmas.List.Sums.{count_by-le-length, length-filter, sum_by-cons}
pub use Rattle.std.proofs.lemmas.Map.Views.{any-filter_same}
pub use Rattle.std.proofs.lemmas.Nat.{and_le_l, and_le_r}
pub use Rattle.std.proofs.lemmas.Nat.Bits.{bit_at-lt, bit_at-zero, bit_at_and, bit_at_not}
pub use Rattle.std.specs.Int.{bit_at, bit_not, trailing_zeros}
pub use Rattle.std.specs.List.{All, AllByRecursion, AllZip, cons_option, count_by, filter, filter_map, list_all, list_any, range_with_len, sum_by}
pub use Rattle.std.specs.List.Sorted.{IsNonDecreasingBy, IsPermutation}
pub use Rattle.std.specs.Option.{option_map}
