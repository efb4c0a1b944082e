use Rattle.dine_forks.proofs.Lemmas.{length-cut, ◌≡◌, ◌<◌, ◌++◌, ◌∷◌, [], List, Some, None, true, length, ap, sym, ◌∙◌, subst, ForkBook, ForkId, ForkRecord, is_in_use, record_of, without, HasPlace, ListEnds, Node, node_at, links_at, cut_nodes_in, cut_list, hung_list, IsStored, book_of, is_listed, without_id, IsOrdered, ids_of, is_in_use-named, CanCut, CanUnlink, book-unlinked, can_cut_first, can_cut_second, cut_both_lists, cut_both_nodes, cut_first_nodes, cut_first_lists, stored-unlinked, CanMove, can_move, has_place-same, last_has_place, moved, moved_left, moved_ordered, moved_to, near, split_listed, Keeps, book_moved, free_same, ids_same, keeps-cut, ordered_same, stored_moved, nodes_of, room_of, used_of, free_of, few-stored, signed-unlinked, AreSignatures}
use Rattle.dine_forks.specs.contracts.lists.Lists.{the_invariant, the_view}
use Rattle.dine_forks.specs.declared.lists.Lists.TheInside.{Inside}
use Rattle.dine_forks.proofs.lists.Lists.unlink.Goals.{After-record-record}
use Rattle.dine_forks.proofs.lists.Lists.unlink.Goals as goal

-- the nodes once the record is out of the lists of its ends
abbrev out : Inside → ForkId → ForkRecord → List Node
out b id r = cut_both_nodes (nodes_of b) id r

-- which leaves the list of all
same_out : (b : Inside) (id : ForkId) (r : ForkRecord) → Keeps (nodes_of b) (out b id r)
same_out b id r ends ids h =
    let one = keeps-cut r.first (nodes_of b) (links_at r.first (node_at (nodes_of b) id)) ends ids h in
    keeps-cut r.second (cut_first_nodes (nodes_of b) id r) (links_at r.second (node_at (cut_first_nodes (nodes_of b) id r) id)) ends ids one

-- the record is in the book, so it can be cut out of its lists, and go to the vacant ones
record Start (b : Inside) (id : ForkId) (r : ForkRecord) : Type 0 where
  can : CanUnlink (nodes_of b) b.by_slot.items (used_of b) (free_of b) (room_of b) id r
  give : CanMove (out b id r) b.all b.vacant id
  ordered : IsOrdered (nodes_of b) b.all b.vacant
  signed : AreSignatures b.signatures.items (the_view b)

-- so it is where the record is in use
start : (b : Inside) (book : ForkBook) (id : ForkId) (r : ForkRecord) → the_view b ≡ book → the_invariant b → is_in_use id book.records ≡ true → record_of id book.records ≡ Some r → Start b id r
start b book id r view holds used found =
    let n0 = nodes_of b in let order = used_of b in let same = same_out b id r in
    let listed : is_listed id order ≡ true = sym (is_in_use-named n0 order id holds.0.named) ∙ (rw (← view) at used) in
    let split = split_listed (ids_of (out b id r) b.all) id (rw (ids_same n0 (out b id r) same b.all b.vacant holds.1) listed) in
    record {
      can = record { stored = holds.0; found = rw (← view) at found };
      give = can_move (out b id r) b.all b.vacant id split.0 split.1 (ordered_same n0 (out b id r) same b.all b.vacant holds.1) split.2;
      ordered = holds.1;
      signed = holds.2;
    }

module _ (b : Inside) (id : ForkId) (r : ForkRecord) (s : Start b id r) where
  -- the nodes once the record is out of the lists of its ends
  abbrev n2 : List Node
  n2 = out b id r

  -- the nodes and the lists once it is taken out
  abbrev n4 : List Node
  n4 = moved n2 id b.vacant.last (node_at n2 id).all

  -- the lists of the slots at the end
  abbrev L2 : List ListEnds
  L2 = cut_both_lists (nodes_of b) b.by_slot.items id r

  -- the list of all once it lacks the record
  abbrev all : ListEnds
  all = cut_list (node_at n2 id).all b.all

  -- the list of the vacant ones once it has it
  abbrev vacant : ListEnds
  vacant = hung_list id b.vacant

  -- what the two cuts ask
  first-cuts : CanCut (nodes_of b) b.by_slot.items r.first id
  first-cuts = can_cut_first (nodes_of b) b.by_slot.items (used_of b) (free_of b) (room_of b) id r s.can

  -- it can be cut out of the list of its second end
  second-cuts : CanCut (cut_first_nodes (nodes_of b) id r) (cut_first_lists (nodes_of b) b.by_slot.items id r) r.second id
  second-cuts = can_cut_second (nodes_of b) b.by_slot.items (used_of b) (free_of b) (room_of b) id r s.can

  -- the record has a place before it is cut out of the list of all and after it, and so has the last of the vacant ones
  placed : id.number < length n2
  placed = (near n2 b.all b.vacant id s.give).within

  -- so has the last vacant one
  last-placed : HasPlace (cut_nodes_in None (node_at n2 id).all n2) b.vacant.last
  last-placed = has_place-same n2 _ b.vacant.last (length-cut None (node_at n2 id).all n2) (last_has_place None n2 b.vacant (ids_of n2 b.vacant) s.give.to_row)

  -- the ids in use are the others
  ids-left : ids_of n4 all ≡ without_id id (used_of b)
  ids-left = moved_left n2 b.all b.vacant id s.give ∙ ap (without_id id) (ids_same (nodes_of b) n2 (same_out b id r) b.all b.vacant s.ordered)

  -- the ids of the vacant ones are those before it, and its own
  free-left : ids_of n4 vacant ≡ free_of b ++ id ∷ []
  free-left = moved_to n2 b.all b.vacant id s.give ∙ ap (λ (l : List ForkId). l ++ id ∷ []) (free_same (nodes_of b) n2 (same_out b id r) b.all b.vacant s.ordered)

  -- all that is kept holds of the new state, and the book lacks the record
  holds-unlinked : IsStored (room_of b) n4 L2 (ids_of n4 all) (ids_of n4 vacant)
  holds-unlinked =
      rw (ids-left, free-left) (stored_moved n2 id b.vacant.last (node_at n2 id).all L2 (without_id id (used_of b)) (free_of b ++ id ∷ []) (room_of b) (stored-unlinked (nodes_of b) b.by_slot.items (used_of b) (free_of b) (room_of b) id r s.can))

  -- the two lists are in order at the end
  ordered-unlinked : IsOrdered n4 all vacant
  ordered-unlinked = moved_ordered n2 b.all b.vacant id s.give

  -- the book lacks the record
  book-is : book_of (room_of b) n4 L2 (ids_of n4 all) ≡ record (the_view b) { records = without id (the_view b).records }
  book-is =
      ap (book_of (room_of b) n4 L2) ids-left ∙ book_moved n2 id b.vacant.last (node_at n2 id).all (room_of b) L2 (without_id id (used_of b)) ∙ book-unlinked (nodes_of b) b.by_slot.items (used_of b) (free_of b) (room_of b) id r s.can

  -- and the others are noted as they were
  signed : AreSignatures b.signatures.items (book_of (room_of b) n4 L2 (ids_of n4 all))
  signed = subst (λ (book : ForkBook). AreSignatures b.signatures.items book) (sym book-is) (signed-unlinked b.signatures.items (the_view b) id s.signed)

-- what the call begins with
begun : (c : After-record-record) → Start c.self.inside c.args.id c.record-record.result
begun c = start c.self.inside c.args.self.now c.args.id c.record-record.result c.self.view_is c.self.invariant c.requires c.record-record.ensures.found

pub cut-requires : goal.cut-requires
cut-requires c =
    let s = begun (goal.at.cut-requires c).After-record-record in
    let able = first-cuts c.self.inside _ _ s in
    record { slot = able.within; id = able.place; some = able.some }

pub cut-requires-2 : goal.cut-requires-2
cut-requires-2 c =
    let s = begun (goal.at.cut-requires-2 c).After-record-record in
    let able = second-cuts c.self.inside _ _ s in
    record { slot = rw c.cut.ensures.lists able.within; id = rw c.cut.ensures.records able.place; some = rw c.cut.ensures.lists able.some }

pub cut-links-requires : goal.cut-links-requires
cut-links-requires c =
    let s = begun (goal.at.cut-links-requires c).After-record-record in
    rw (c.cut-2.ensures.records, c.cut.ensures.records) (placed c.self.inside _ _ s)

pub hang-requires : goal.hang-requires
hang-requires c =
    let s = begun (goal.at.hang-requires c).After-record-record in
    record {
      within = rw (c.cut-links.ensures.nodes, c.cut-2.ensures.records, c.cut.ensures.records, length-cut) (placed c.self.inside _ _ s);
      behind = rw (c.cut-links.ensures.nodes, c.cut-2.ensures.records, c.cut.ensures.records) (last-placed c.self.inside _ _ s);
    }

pub with_one-self-inside-requires-clause-id : goal.with_one-self-inside-requires-clause-id
with_one-self-inside-requires-clause-id c =
    let b = c.self.inside in
    few-stored (room_of b) (nodes_of b) b.by_slot.items (used_of b) (free_of b) c.args.id c.self.invariant.0 (first-cuts b _ _ (begun (goal.at.with_one-self-inside-requires-clause-id c).After-record-record)).place

pub invariant_of-self : goal.invariant_of-self
invariant_of-self c =
    let s = begun (goal.at.invariant_of-self c).After-record-record in
    let left = c.without_one-self-inside.ensures ∙ ap (λ l. cut_list l c.self.inside.all) c.cut-links.ensures.links in
    rw (left, c.with_one-self-inside.ensures, c.hang.ensures, c.cut-links.ensures.nodes, c.cut-2.ensures.records, c.cut-2.ensures.lists, c.cut.ensures.records, c.cut.ensures.lists)
    (holds-unlinked c.self.inside _ _ s, ordered-unlinked c.self.inside _ _ s, signed c.self.inside _ _ s)

pub returns : goal.returns
returns c =
    let s = begun (goal.at.returns c).After-record-record in
    let left = c.without_one-self-inside.ensures ∙ ap (λ l. cut_list l c.self.inside.all) c.cut-links.ensures.links in
    rw (← c.self.view_is) (
    rw (left, c.hang.ensures, c.cut-links.ensures.nodes, c.cut-2.ensures.records, c.cut-2.ensures.lists, c.cut.ensures.records, c.cut.ensures.lists)
    (book-is c.self.inside _ _ s))
