use Rattle.dine_forks.proofs.Lemmas.{length-cut, length-hung, ◌≡◌, ◌≢◌, ℕ, ◌<◌, ◌++◌, ◌∷◌, [], List, None, Some, false, true, get_or_default, length, length-append, nat_tests, append-nil, refl, sym, ap, ◌∙◌, subst, arith, ForkBook, Fork, ForkId, ForkRecord, are_joined, HasPlace, Links, ListEnds, Node, renewed, length-map, list_at, node_at, provided_list, provided_nodes, CanHang, cut_list, cut_nodes_in, hung_list, IsKeptBook, IsStored, book_of, IsOrdered, ids_of, CanLink, book-linked, both_lists, both_nodes, first_lists, first_nodes, started, can_hang_first, can_hang_second, id_is_fresh, stored-linked, CanMove, can_move, has_place-same, last_has_place, moved, moved_from, moved_ordered, moved_to, near, ordered-turned, split_last, Keeps, book_moved, free_same, ids_same, keeps-hung, keeps-set, ordered_same, records_moved, stored_moved, nodes_of, used_of, free_of, room_of, few-stored, list_end, provided, row-none, row-some, signed-linked, is_full, AreSignatures, noted, rules}
use Rattle.dine_forks.specs.contracts.lists.Lists.{the_invariant, the_view}
use Rattle.dine_forks.specs.declared.lists.Lists.TheInside.{Inside}
use Rattle.dine_forks.proofs.lists.Lists.link.Goals.{In_ok-id}
use Rattle.dine_forks.proofs.lists.Lists.link.Goals as goal

-- the nodes once the record is in the list of all
abbrev after : Inside → ForkId → List Node
after b id = moved (nodes_of b) id b.all.last (node_at (nodes_of b) id).all

-- a book with a free id isn't full
not-full : (book : ForkBook) (free before : List ForkId) (id : ForkId) (given : ℕ) → IsKeptBook book free given → free ≡ before ++ id ∷ [] → is_full book ≡ false
not-full book free before id given kept is =
    let all = kept.all_ids in let fit = kept.given_fit in let count = ap length is ∙ length-append before (id ∷ []) in
    grind (arith, nat_tests)

-- the record that is linked
abbrev of : ForkId → ℕ → ℕ → Fork → ForkRecord
of id a b fork = record { id = id; first = a; second = b; fork = fork }

-- its id is that of the last vacant record, and its slots can have it
record Start (b : Inside) (r : ForkRecord) : Type 0 where
  before : List ForkId
  popped : free_of b ≡ before ++ r.id ∷ []
  ordered : IsOrdered (nodes_of b) b.all b.vacant
  can : CanLink (after b r.id) b.by_slot.items (used_of b) (free_of b) before (room_of b) r
  stored : IsStored (room_of b) (nodes_of b) b.by_slot.items (used_of b) (free_of b)
  signed : AreSignatures b.signatures.items (the_view b)

-- so it is where the contract's premises hold
start : (b : Inside) (book : ForkBook) (r : ForkRecord) → the_view b ≡ book → the_invariant b → b.vacant.last ≡ Some r.id → r.first ≢ r.second → r.first < book.slots → r.second < book.slots → are_joined r.first r.second book.records ≡ false → Start b r
start b book r view holds was differ first second apart =
    let n0 = nodes_of b in let order = used_of b in let last = split_last (free_of b) r.id (sym holds.1.free.last ∙ was) in
    let move = can_move n0 b.vacant b.all r.id last.0 [] (ordered-turned n0 b.all b.vacant holds.1) last.1 in
    record {
      before = last.0;
      popped = last.1;
      ordered = holds.1;
      can = record {
        stored = stored_moved n0 r.id b.all.last (node_at n0 r.id).all b.by_slot.items order (free_of b) (room_of b) holds.0;
        popped = last.1;
        place = rw (length-hung, length-cut) (near n0 b.vacant b.all r.id move).within;
        differ = differ;
        first = rw (← view) at first;
        second = rw (← view) at second;
        apart = ap (are_joined r.first r.second) (records_moved n0 r.id b.all.last (node_at n0 r.id).all order) ∙ (rw (← view) at apart);
      };
      stored = holds.0;
      signed = holds.2;
    }

module _ (b : Inside) (r : ForkRecord) (s : Start b r) where
  -- the nodes once the record is in the list of all
  abbrev n2 : List Node
  n2 = after b r.id

  -- the nodes and the two lists once it is linked
  abbrev n5 : List Node
  n5 = both_nodes n2 b.by_slot.items r

  -- the move from the vacant ones
  abbrev move : CanMove (nodes_of b) b.vacant b.all r.id
  move = can_move (nodes_of b) b.vacant b.all r.id s.before [] (ordered-turned (nodes_of b) b.all b.vacant s.ordered) s.popped

  -- the list of all once it has the record
  abbrev all : ListEnds
  all = hung_list r.id b.all

  -- the list of the vacant ones once it lacks it
  abbrev vacant : ListEnds
  vacant = cut_list (node_at (nodes_of b) r.id).all b.vacant

  -- the record has a place
  placed : r.id.number < length (nodes_of b)
  placed = (near (nodes_of b) b.vacant b.all r.id move).within

  -- so has the last of all
  last-placed : HasPlace (cut_nodes_in None (node_at (nodes_of b) r.id).all (nodes_of b)) b.all.last
  last-placed = has_place-same (nodes_of b) _ b.all.last (length-cut None (node_at (nodes_of b) r.id).all (nodes_of b)) (last_has_place None (nodes_of b) b.all (used_of b) s.ordered.used)

  -- the lists of its ends can have it
  first-hangs : CanHang (started n2 r) r.id (list_at b.by_slot.items r.first).last × ((list_at b.by_slot.items r.first).degree < 65536)
  first-hangs = can_hang_first n2 b.by_slot.items (used_of b) (free_of b) s.before (room_of b) r s.can

  -- and so can that of its second end
  second-hangs : CanHang (first_nodes n2 b.by_slot.items r) r.id (list_at (first_lists b.by_slot.items r) r.second).last × ((list_at (first_lists b.by_slot.items r) r.second).degree < 65536)
  second-hangs = can_hang_second n2 b.by_slot.items (used_of b) (free_of b) s.before (room_of b) r s.can

  -- no list of a slot is a part of the list of all
  same : Keeps n2 n5
  same ends ids h =
      let one = keeps-set n2 r.id (renewed r (node_at n2 r.id)) refl ends ids h in
      keeps-hung r.second (first_nodes n2 b.by_slot.items r) r.id (list_at (first_lists b.by_slot.items r) r.second).last ends ids (keeps-hung r.first (started n2 r) r.id (list_at b.by_slot.items r.first).last ends ids one)

  -- the two lists are in order once it is moved
  ordered-all : IsOrdered n2 all vacant
  ordered-all = ordered-turned n2 vacant all (moved_ordered (nodes_of b) b.vacant b.all r.id move)

  -- the ids in use are those before it, and its own
  ids-linked : ids_of n5 all ≡ used_of b ++ r.id ∷ []
  ids-linked = ids_same n2 n5 same all vacant ordered-all ∙ moved_to (nodes_of b) b.vacant b.all r.id move

  -- all that is kept holds of the new state, and the book has the record
  holds-linked : IsStored (room_of b) n5 (both_lists b.by_slot.items r) (ids_of n5 all) (ids_of n5 vacant)
  holds-linked =
      rw (ids-linked, free_same n2 n5 same all vacant ordered-all, moved_from (nodes_of b) b.vacant b.all r.id move, append-nil) (stored-linked n2 b.by_slot.items (used_of b) (free_of b) s.before (room_of b) r s.can)

  -- the two lists are in order at the end
  ordered-linked : IsOrdered n5 all vacant
  ordered-linked = ordered_same n2 n5 same all vacant ordered-all

  -- the book has the record behind the others
  book-is : book_of (room_of b) n5 (both_lists b.by_slot.items r) (ids_of n5 all) ≡ record (the_view b) { records = (the_view b).records ++ r ∷ [] }
  book-is =
      ap (book_of (room_of b) n5 (both_lists b.by_slot.items r)) ids-linked ∙ book-linked n2 b.by_slot.items (used_of b) (free_of b) s.before (room_of b) r s.can
      ∙ ap (λ (x : ForkBook). record { slots = x.slots; room = x.room; records = x.records ++ r ∷ [] }) (book_moved (nodes_of b) r.id b.all.last (node_at (nodes_of b) r.id).all (room_of b) b.by_slot.items (used_of b))

  -- and its slots are noted, where those signatures stay that have records
  signed : (first second : ℕ) → first ≡ (list_at b.by_slot.items r.first).degree → second ≡ (list_at b.by_slot.items r.second).degree → AreSignatures (noted r.second r.first second (noted r.first r.second first b.signatures.items)) (record (the_view b) { records = (the_view b).records ++ r ∷ [] })
  signed first second counts_first counts_second =
      let listed = s.stored.listed in
      signed-linked b.signatures.items (the_view b) r first second s.signed s.can.differ s.can.first s.can.second (counts_first ∙ (listed r.first s.can.first).degree ∙ length-map _ _) (counts_second ∙ (listed r.second s.can.second).degree ∙ length-map _ _)

-- the lists once a record is provided
abbrev filled : Inside → Inside
filled b = record b { records = record b.records { nodes = provided_nodes (room_of b) (nodes_of b) b.vacant }; vacant = provided_list (room_of b) (nodes_of b) b.vacant }

-- they stand for the same book, which is full where none is vacant then
ready : (b : Inside) (book : ForkBook) → the_view b ≡ book → the_invariant b → the_invariant (filled b) × (the_view (filled b) ≡ book) × ((filled b).vacant.last ≡ None → is_full book ≡ true)
ready b book view holds =
    let p = provided (room_of b) (nodes_of b) b.by_slot.items b.all b.vacant holds.0 holds.1 in
    ((p.stored, p.ordered, subst (AreSignatures b.signatures.items) (sym p.same) holds.2), p.same ∙ view, rw (← view) p.full)

-- what the call begins with
begun : (c : In_ok-id) → Start (filled c.self.inside) (of c.in_ok-id.id c.args.a c.args.b c.args.fork)
begun c =
    let r = ready c.self.inside c.args.self.now c.self.view_is c.self.invariant in
    start (filled c.self.inside) c.args.self.now (of c.in_ok-id.id c.args.a c.args.b c.args.fork) r.1 r.0 (sym c.take.ensures.id ∙ c.in_ok-id.was) c.requires.differ c.requires.first c.requires.second c.requires.apart

-- its number is small
few : (c : In_ok-id) → c.in_ok-id.id.number < 65536
few c = let b = filled c.self.inside in let s = begun c in few-stored (room_of b) (nodes_of b) b.by_slot.items (used_of b) (free_of b) c.in_ok-id.id s.stored (placed _ _ s)

-- the record is taken, and the vacant ones lack it
record Taken (c : In_ok-id) : Type 0 where
  records : c.take.new.self ≡ record (filled c.self.inside).records { nodes = cut_nodes_in None (node_at (nodes_of (filled c.self.inside)) c.in_ok-id.id).all (nodes_of (filled c.self.inside)) }
  vacant : c.take.new.vacant ≡ cut_list (node_at (nodes_of (filled c.self.inside)) c.in_ok-id.id).all (filled c.self.inside).vacant

-- so it was
taken : (c : In_ok-id) → Taken c
taken c =
    let b = filled c.self.inside in let s = begun c in let told = rw c.in_ok-id.was at c.take.ensures.some in
    let is = (near (nodes_of b) b.vacant b.all c.in_ok-id.id (move _ _ s)).links in
    record { records = told.0; vacant = told.1 ∙ ap (λ (l : Links). cut_list record { previous = l.previous; next = None } b.vacant) is ∙ ap (λ l. cut_list l b.vacant) (sym is) }

pub take-requires-clause-last : goal.take-requires-clause-last
take-requires-clause-last c = let b = c.self.inside in last_has_place None (nodes_of b) b.vacant (free_of b) c.self.invariant.1.free

pub take-requires-clause-some : goal.take-requires-clause-some
take-requires-clause-some c = let b = c.self.inside in row-some (nodes_of b) b.vacant (free_of b) c.self.invariant.1.free

pub take-requires-clause-end : goal.take-requires-clause-end
take-requires-clause-end c = let b = c.self.inside in list_end (nodes_of b) b.vacant (free_of b) c.self.invariant.1.free

pub take-requires-clause-none : goal.take-requires-clause-none
take-requires-clause-none c = let b = c.self.inside in row-none (nodes_of b) b.vacant (free_of b) c.self.invariant.1.free

pub invariant_of-self : goal.invariant_of-self
invariant_of-self c = let same = c.take.ensures.none c.in_err-id.was in rw (same.0, same.1) c.self.invariant

pub returns-in_err-id : goal.returns-in_err-id
returns-in_err-id c =
    let r = ready c.self.inside c.args.self.now c.self.view_is c.self.invariant in
    let full = r.2 (sym c.take.ensures.id ∙ c.in_err-id.was) in let view = c.self.view_is in
    record { full = grind arith; unchanged = grind arith; fresh = search rules; linked = search rules }

pub hang-requires : goal.hang-requires
hang-requires c =
    let at = (goal.at.hang-requires c).In_ok-id in let s = begun at in
    rw (taken at).records record { within = rw length-cut (placed _ _ s); behind = last-placed _ _ s }

pub with_one-self-inside-requires-clause-id : goal.with_one-self-inside-requires-clause-id
with_one-self-inside-requires-clause-id c = few (goal.at.with_one-self-inside-requires-clause-id c).In_ok-id

pub write-requires-clause-within : goal.write-requires-clause-within
write-requires-clause-within c =
    let at = (goal.at.write-requires-clause-within c).In_ok-id in
    rw (c.new-record.ensures, c.hang.ensures, (taken at).records) (begun at).can.place

pub hang-requires-2 : goal.hang-requires-2
hang-requires-2 c =
    let at = (goal.at.hang-requires-2 c).In_ok-id in let first = first-hangs _ _ (begun at) in
    record { slot = search rules; id = few at; hangs = rw (c.write.ensures, c.new-record.ensures, c.hang.ensures, (taken at).records) first.0; few = first.1 }

pub hang-requires-3 : goal.hang-requires-3
hang-requires-3 c =
    let at = (goal.at.hang-requires-3 c).In_ok-id in let second = second-hangs _ _ (begun at) in
    record {
      slot = search rules;
      id = few at;
      hangs = rw (c.hang-2.ensures.records, c.hang-2.ensures.lists, c.write.ensures, c.new-record.ensures, c.hang.ensures, (taken at).records) second.0;
      few = rw c.hang-2.ensures.lists second.1;
    }

pub invariant_of-self-2 : goal.invariant_of-self-2
invariant_of-self-2 c =
    let at = (goal.at.invariant_of-self-2 c).In_ok-id in let s = begun at in let t = taken at in let b = filled c.self.inside in
    let first : c.index.result.now.degree ≡ (list_at b.by_slot.items c.args.a).degree = grind (arith, get_or_default) in
    let second : c.index-2.result.now.degree ≡ (list_at b.by_slot.items c.args.b).degree = grind (arith, get_or_default) in
    let signatures : c.note-2.new.signatures.items ≡ noted c.args.b c.args.a c.index-2.result.now.degree (noted c.args.a c.args.b c.index.result.now.degree b.signatures.items) = c.note-2.ensures ∙ ap (noted c.args.b c.args.a c.index-2.result.now.degree) c.note.ensures in
    let noted : AreSignatures c.note-2.new.signatures.items (book_of (room_of b) (n5 _ _ s) (both_lists b.by_slot.items (of c.in_ok-id.id c.args.a c.args.b c.args.fork)) (ids_of (n5 _ _ s) (all _ _ s))) =
    subst (λ (x : List ℕ × ForkBook). AreSignatures x.0 x.1) (λ j. (sym signatures j, sym (book-is _ _ s) j)) (signed _ _ s _ _ first second) in
    rw (t.vacant, c.with_one-self-inside.ensures, c.hang-3.ensures.records, c.hang-3.ensures.lists, c.hang-2.ensures.records, c.hang-2.ensures.lists, c.write.ensures, c.new-record.ensures, c.hang.ensures, t.records)
    (holds-linked _ _ s, ordered-linked _ _ s, noted)

pub returns : goal.returns
returns c =
    let at = (goal.at.returns c).In_ok-id in let s = begun at in let t = taken at in
    let b = filled c.self.inside in let n0 = nodes_of b in let id = c.in_ok-id.id in let order = used_of b in
    let view : the_view b ≡ c.args.self.now = (ready c.self.inside c.args.self.now c.self.view_is c.self.invariant).1 in
    let fresh = id_is_fresh (after b id) b.by_slot.items order (free_of b) s.before (room_of b) _ s.can in
    record {
      full = rw (← view) (sym (not-full (the_view b) (free_of b) s.before id _ s.stored.kept s.popped));
      unchanged = tt;
      fresh = rw (← view) (rw (records_moved n0 id b.all.last (node_at n0 id).all order) at fresh);
      linked = rw (← view) (
          rw (c.hang-3.ensures.records, c.hang-3.ensures.lists, c.hang-2.ensures.records, c.hang-2.ensures.lists, c.write.ensures, c.new-record.ensures, c.hang.ensures, t.records, c.with_one-self-inside.ensures)
          (book-is b _ s));
    }
