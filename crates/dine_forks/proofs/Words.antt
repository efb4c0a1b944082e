-- The words that the proofs of the book are written in: those of std and of specs/, and a few of their own.
pub use Rattle.std.proofs.Common.{◌%◌, ◌⊎◌, ◌&&◌, [], ◌*◌, ◌++◌, ◌+◌, ◌-◌, ◌/◌, ◌<◌, ◌==◌, ◌||◌, ◌∙◌, ◌∷◌, ◌≡◌, ◌≢◌, ◌≤◌, Bool, List, None, Option, Some, ap, append-nil, arith, cond, drop, eqb, false, get_or, if◌then◌else◌, inl, inr, length, length-append, ltb, map, not, refl, replicate, rules, set, subst, suc, sym, take, true, zero, ℕ}
pub use Rattle.std.proofs.Math.Bool.{beq}
pub use Rattle.std.proofs.Math.Seq.{take-append_seam}
pub use Rattle.std.proofs.lemmas.Bool.{and_parts, cases_Bool, cases_lt, eq-eqb, eqb-false, eqb-true, false≢true, le-leb, le-ltb, lt-ltb, ne_eqb, not-true, or_from, or_left, or_parts, or_right}
pub use Rattle.std.proofs.lemmas.Bool.Decides.{nat_tests}
pub use Rattle.std.proofs.lemmas.Grind.{common_steps, get_or-set_at}
pub use Rattle.std.proofs.Math.ListN.{get_or-map}
pub use Rattle.std.proofs.lemmas.List.{get_or-replicate, get_or-set_other, get_or-set_same, get_or_default, length-map, length-replicate, length-set, map-append, map-set, set-get_or, set_comm, set_past}
pub use Rattle.std.proofs.lemmas.List.Elements.{filter-append}
pub use Rattle.std.proofs.lemmas.List.Sums.{sum_by-cons}
pub use Rattle.std.specs.List.{filter, list_all, list_any, sum_by}
pub use Rattle.std.specs.Option.{IfSome, is_none, option_map, option_or}
pub use Rattle.dine_forks.specs.Blocks.{AreCells, AreLeft, Block, Cell, InBlock, IsBlock, IsCell, IsIn, IsSameBlock, IsWritten, Part, Place, Ptr, block_nodes, cell_in, cell_index, cell_or, cell_place, fork_in, label_of, link_in, linked_id, node_in, node_of, number_at, number_in, number_or, place_at, put_link, the_row, vacant_cell, with_link, with_pointer}
pub use Rattle.dine_forks.specs.Book.{ForkBook, EachIdOnce, EachPairOnce, EndsAreSlots, Fork, ForkId, ForkRecord, IsBook, Onward, are_joined, behind, book_with_fork, changed_where, empty_book, ends_of, first_id, has_id, holds, id_below, id_between, is_between, is_end, is_in_use, other_end, put_fork, reached, record_of, same_id, slot_list, dirtied, with_fork, with_record, without}
pub use Rattle.dine_forks.specs.Counts.{AreCountedEnds, CanAdd, CanCount, CanRemove, IsCounted, Count, IsTied, counted_less, counted_more, count_at, count_in, count_with, count_without, asker_set, both_recounted, is_asked, is_member, kept_set, lacks, no_count, one_if, recounted, relieved}
pub use Rattle.dine_forks.specs.Held.{dirtied_at, dirtied_fork, end_with, holder, is_asked_of, is_holder, is_non_holder, non_holder, requester}
pub use Rattle.dine_forks.specs.Kept.{AllListed, AreFree, AreNamed, IsKeptBook, IsStored, book_of, is_listed}
pub use Rattle.dine_forks.specs.Lends.{with_slots}
pub use Rattle.dine_forks.specs.Lists.{CanHang, HasPlace, Links, ListEnds, Node, blank, blank_node, cut_list, cut_lists, cut_nodes_in, empty_list, forked, forked_nodes, hung_list, hung_lists, hung_nodes_in, links_at, links_in, list_at, no_links, node_at, put_links_in, put_next_in, put_previous_in, record_at, records_of, renewed, renewed_nodes, vacant, with_links_in}
pub use Rattle.dine_forks.specs.Places.{IsFilledAt}
pub use Rattle.dine_forks.specs.Rows.{AreInRow, IsNear, IsOrdered, RowHasIds, ids_from, ids_of, row_first, row_last}
pub use Rattle.dine_forks.specs.Taking.{HasTaken, Records, provided_list, provided_nodes, wants_record}
pub use Rattle.dine_forks.specs.Search.{place_between, records_read, searched_end}
pub use Rattle.dine_forks.specs.Marks.{IsSeenAlike, dirtied_record, is_marked, own_dirtied_at, own_dirtied_fork, seen_book, seen_record}
pub use Rattle.dine_forks.specs.Sending.{after, messages_in}
pub use Rattle.dine_forks.specs.Walking.{CanPut, CanStep, DoMeet, HasEndedMark, HasStepped, IsTiedBut, IsSided, is_met_at, is_reached, is_reached_at, owed_at, owed_fork, times_reached, times_walked, walked_at, walked_book, walked_fork}

-- the ids without this one
abbrev pub without_id : ForkId → List ForkId → List ForkId
without_id id ids = filter (λ other. not (same_id other id)) ids
