-- The words and lemmas that the answers of functions name, from one place.
pub use Rattle.dine_forks.proofs.Words.{AreCells, AreLeft, Block, CanCount, CanHang, Cell, Count, Fork, ForkBook, ForkId, ForkRecord, HasEndedMark, HasPlace, InBlock, IsKeptBook, IsOrdered, IsSameBlock, IsSeenAlike, IsSided, IsStored, IsTied, IsTiedBut, IfSome, Links, List, ListEnds, Node, None, Option, Ptr, RowHasIds, Some, [], and_parts, ap, append-nil, are_joined, arith, behind, blank_node, block_nodes, book_of, book_with_fork, cases_Bool, common_steps, count_at, count_in, count_with, cut_list, cut_nodes_in, dirtied, drop, empty_list, ends_of, eq-eqb, eqb, false, false≢true, first_id, forked_nodes, get_or-set_other, get_or-set_same, get_or_default, holder, hung_list, hung_nodes_in, id_below, id_between, ids_of, if◌then◌else◌, inl, inr, is_end, is_in_use, is_listed, is_marked, is_met_at, is_reached, label_of, length, length-append, length-map, length-replicate, length-set, linked_id, links_at, list_all, list_at, ltb, map, nat_tests, no_count, node_at, node_in, non_holder, not, number_at, one_if, option_map, other_end, owed_at, owed_fork, own_dirtied_at, own_dirtied_fork, provided_list, provided_nodes, put_link, put_links_in, put_next_in, reached, record_of, records_of, recounted, refl, renewed, replicate, seen_book, seen_record, set, slot_list, subst, sum_by, sum_by-cons, sym, take, times_reached, times_walked, true, vacant, vacant_cell, walked_at, walked_fork, with_record, without, without_id, ℕ, ◌++◌, ◌+◌, ◌<◌, ◌==◌, ◌∙◌, ◌∷◌, ◌≡◌, ◌≢◌}
pub use Rattle.dine_forks.proofs.Blocks.{all_both, below-number_or, below_room, filled, given-cells, given-left, given-nodes, id_below-past, id_below_is, id_has, is_cell, length-three, length_nodes, linked_is, named_at, number_is, pointer_block, record_block, record_is, record_nodes, same_both, slot_both, with_three}
pub use Rattle.dine_forks.proofs.CallerLemmas.{found-used, slot_of_used}
pub use Rattle.dine_forks.proofs.Counted.{end_in, ends_in, few-in}
pub use Rattle.dine_forks.proofs.Forking.{AreForked, lists-forked}
pub use Rattle.dine_forks.proofs.Linking.{CanCut, CanLink, CanUnlink, book-linked, book-unlinked, both_lists, both_nodes, can_cut_first, can_cut_second, can_hang_first, can_hang_second, cut_both_lists, cut_both_nodes, cut_first_lists, cut_first_nodes, ends_of_used, first_lists, first_nodes, id_is_fresh, other_end_of_used, started, stored-linked, stored-unlinked}
pub use Rattle.dine_forks.proofs.Listing.{next_in}
pub use Rattle.dine_forks.proofs.Marking.{holder-within, lent, linked-seen, marked-same, own-dirt, put-seen, take-seen}
pub use Rattle.dine_forks.proofs.Named.{is_in_use-named}
pub use Rattle.dine_forks.proofs.Nodes.{length-cut, length-hung}
pub use Rattle.dine_forks.proofs.Providing.{few-stored, free_of, list_end, nodes_of, provided, room_of, row-none, row-some, stored-empty, used_of}
pub use Rattle.dine_forks.proofs.Rows.{CanMove, can_move, has_place-same, last_has_place, moved, moved_from, moved_left, moved_ordered, moved_to, near, ordered, ordered-turned, split_last, split_listed}
pub use Rattle.dine_forks.proofs.Same.{Keeps, book_moved, free_same, ids_same, keeps-cut, keeps-hung, keeps-set, ordered_same, records_moved, stored_moved}
pub use Rattle.dine_forks.proofs.Searching.{IsSearching, along_second, few_read, few_records_read, id_between-turned, other-is-first, other-is-second, records_read-seen, search-ends, search-goes_on, search-start}
pub use Rattle.dine_forks.proofs.Seen.{are_joined-seen, degree_seen, first-seen, holds_all-seen, id_between_seen, is_in_use-seen, listed-seen, next-seen, once-seen, seen-same, seen_all, told_seen, without-seen}
pub use Rattle.dine_forks.proofs.Signing.{none-between, signed-linked, signed-unlinked}
pub use Rattle.dine_forks.proofs.SlotBits.{all-true, begins, found_end, found_here, found_later, found_nowhere, has_bits, has_word, insert-kept, remove-emptied}
pub use Rattle.dine_forks.proofs.Tied.{both-are, can-add, can-come, can-remove, count-seen, dirt-alike, ends-at, found-alike, lacks-some, more-at, none-held, none_lacked, set-both, settled, taken-out, taker-in, tied-added, tied-alike, tied-empty, tied-put, tied-removed}
pub use Rattle.dine_forks.proofs.Walking.{all-goes_on, both-same, can-count, end-is, ended-met, ended-tied, ended-walked, found-seen, gains-is, idle, kept-seen, other-in, owns, put-seen-at, put-tied, put-used, recounts, reached-asked, reached-lacked, rests, runs, seen-alike, seen-clean, seen-on, seen-sided, some-start, walk-idle, walked-all, walked-seen, walked-start}
pub use Rattle.dine_forks.proofs.Walks.{IsChanging, Visits, at-record, at-visit, changing-goes_on, changing-on, changing-start, goes-on_some, length-goes_on, rest-start, rest_of, some-goes_on, sum-goes_on}
pub use Rattle.dine_forks.specs.Book.{is_full}
pub use Rattle.dine_forks.specs.Edges.{is_first}
pub use Rattle.dine_forks.specs.Signatures.{AreSignatures, has_bit_of, noted}
pub use Rattle.dine_forks.specs.SlotSets.{bit_in}
pub use Rattle.std.proofs.Common.{rules, ◌*◌, ◌-◌, ◌^◌, ◌≤◌}
pub use Rattle.std.proofs.Math.Seq.{get_or-append_seam}
pub use Rattle.std.specs.List.{range_with_len}
