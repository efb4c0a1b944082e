-- A new book has no ids. Where no record is vacant, the first that was never given is: there is a node more, and what holds
-- of the others stays.
use Rattle.dine_forks.proofs.Words.{◌≡◌, ℕ, ◌+◌, ◌<◌, ◌≤◌, false, true, List, [], ◌∷◌, ◌++◌, length, Option, Some, None, is_none, inl, inr, refl, sym, subst, ap, ◌∙◌, arith, and_parts, cases_Bool, ltb, nat_tests, get_or-replicate, length-append, length-replicate, replicate, ForkId, ForkRecord, same_id, ForkBook, Links, ListEnds, Node, blank_node, vacant, links_in, list_at, node_at, records_of, AreNamed, IsStored, book_of, is_listed, AreInRow, IsNear, IsOrdered, RowHasIds, ids_of, row_first, row_last, hung_list, empty_list, provided_list, provided_nodes, wants_record}
use Rattle.dine_forks.specs.Book.{is_full}
use Rattle.std.specs.Prelude.{IfSome}
use Rattle.dine_forks.proofs.Named.{is_in_use-named}
use Rattle.dine_forks.proofs.Rows.{ids-is, none_last, ordered, some_last}
use Rattle.dine_forks.specs.Rows.{IsMember, times}
use Rattle.dine_forks.specs.declared.lists.Lists.TheInside.{Inside}
use Rattle.dine_forks.proofs.RecordTests.{same_id-true}
use Rattle.std.proofs.lemmas.List.{get_or_append_left}
use Rattle.std.proofs.Math.Seq.{get_or-append_seam}

-- the nodes that the lists are kept in
abbrev pub nodes_of : Inside → List Node
nodes_of b = b.records.nodes

-- how many they have room for
abbrev pub room_of : Inside → ℕ
room_of b = b.records.room

-- the ids in use
abbrev pub used_of : Inside → List ForkId
used_of b = ids_of (nodes_of b) b.all

-- those of the vacant records
abbrev pub free_of : Inside → List ForkId
free_of b = ids_of (nodes_of b) b.vacant

-- a new book is stored, of which no id was given
pub stored-empty : (slots room : ℕ) → 1 ≤ slots → slots ≤ 65536 → 1 ≤ room → room ≤ 65536 → IsStored room [] (replicate slots empty_list) [] []
stored-empty slots room some_slots few_slots some_room little_room = grind (arith, length-replicate slots empty_list, get_or-replicate {A = ListEnds} slots)

-- a record that is stored has a small number
pub few-stored : (room : ℕ) (nodes : List Node) (lists : List ListEnds) (order free : List ForkId) (id : ForkId) → IsStored room nodes lists order free → id.number < length nodes → id.number < 65536
few-stored room nodes lists order free id h lt = let fits = h.kept.given_fit in let little = h.kept.sound.little_room in omega arith

-- a list that has a last record has some
pub row-some : (nodes : List Node) (ends : ListEnds) (ids : List ForkId) → RowHasIds None nodes ends ids → IfSome ends.last (λ _. 1 ≤ ends.degree)
row-some nodes ends [] h = rw h.last tt
row-some nodes ends (x ∷ xs) h = let some = some_last xs x in let last = h.last in let long = h.degree in grind arith

-- and one that has none is empty
pub row-none : (nodes : List Node) (ends : ListEnds) (ids : List ForkId) → RowHasIds None nodes ends ids → ends.last ≡ None → ends ≡ empty_list
row-none nodes ends ids h e =
    let none = none_last ids (sym h.last ∙ e) in
    λ j. record { first = (h.first ∙ ap (λ (l : List ForkId). row_first l None) none) j; last = e j; degree = (h.degree ∙ ap length none) j }

-- behind the last of a row stands none
row_end : (nodes : List Node) (p : Option ForkId) (x : ForkId) (xs : List ForkId) → AreInRow None nodes p (x ∷ xs) None → IfSome (row_last xs (Some x)) (λ id. (node_at nodes id).all.next ≡ None)
row_end nodes p x [] h = ap (λ (l : Links). l.next) h.0.links
row_end nodes p x (y ∷ ys) h = row_end nodes (Some x) y ys h.1

-- and so behind the last of a list
pub list_end : (nodes : List Node) (ends : ListEnds) (ids : List ForkId) → RowHasIds None nodes ends ids → IfSome ends.last (λ id. (node_at nodes id).all.next ≡ None)
list_end nodes ends [] h = rw h.last tt
list_end nodes ends (x ∷ xs) h = rw h.last (row_end nodes None x xs h.row)

-- an id that a list lacks is none of it
lacks_unlisted : (id : ForkId) (ids : List ForkId) → times id ids ≡ 0 → is_listed id ids ≡ false
lacks_unlisted id [] h = refl
lacks_unlisted id (x ∷ xs) h = grind (arith, lacks_unlisted id xs)

module _ (nodes : List Node) where
  -- the id of the first record that was never given
  abbrev next : ForkId
  next = record { number = length nodes }

  -- the nodes once it is given
  abbrev more : List Node
  more = nodes ++ blank_node (length nodes) ∷ []

  -- the others have their places
  within-more : (i : ℕ) → i < length nodes → i < length more
  within-more i lt = let longer = length-append nodes (blank_node (length nodes) ∷ []) in omega arith

  -- and stay
  node-more : (id : ForkId) → id.number < length nodes → node_at more id ≡ node_at nodes id
  node-more id lt = get_or_append_left nodes (blank_node (length nodes) ∷ []) vacant id.number lt

  -- its record is alone
  next-near : IsNear None more next None None
  next-near = record { within = let longer = length-append nodes (blank_node (length nodes) ∷ []) in omega arith; member = tt; links = ap (λ (n : Node). n.all) (get_or-append_seam nodes (blank_node (length nodes)) [] vacant) }

  -- which a row lacks
  lacks-next : (p : Option ForkId) (ids : List ForkId) (n : Option ForkId) → AreInRow None nodes p ids n → times next ids ≡ 0
  lacks-next p [] n h = refl
  lacks-next p (x ∷ xs) n h = grind (arith, nat_tests, lacks-next (Some x) xs n h.1)

  -- a list stays
  list-more : (list : Option ℕ) (ends : ListEnds) (ids : List ForkId) → RowHasIds list nodes ends ids → RowHasIds list more ends ids
  list-more list ends ids h = record { first = h.first; last = h.last; degree = h.degree; row = row None ids None h.row }
    where
      -- and so does each row
      row : (p : Option ForkId) (ids : List ForkId) (n : Option ForkId) → AreInRow list nodes p ids n → AreInRow list more p ids n
      row p [] n h = tt
      row p (x ∷ xs) n h = let same = node-more x h.0.within in (record { within = within-more x.number h.0.within; member = subst (λ (m : Node). IsMember list m.content) (sym same) h.0.member; links = ap (links_in list) same ∙ h.0.links }, row (Some x) xs n h.1)

  -- the ids in use keep their records
  named-more : (ids : List ForkId) → AreNamed nodes ids → AreNamed more ids
  named-more [] h = tt
  named-more (x ∷ xs) h = (within-more x.number h.0, ap (λ (m : Node). same_id m.content.id x) (node-more x h.0) ∙ h.1, named-more xs h.2)

  -- which are the same
  records-more : (ids : List ForkId) → AreNamed nodes ids → records_of more ids ≡ records_of nodes ids
  records-more [] h = refl
  records-more (x ∷ xs) h = λ j. (node-more x (h.0) j).content ∷ records-more xs h.2 j

-- what holds of the lists once a record is provided: the book is the same, and it is full where none is vacant then
pub record IsProvided (book : ForkBook) (room : ℕ) (nodes : List Node) (lists : List ListEnds) (all free : ListEnds) : Type 0 where
  pub stored : IsStored room nodes lists (ids_of nodes all) (ids_of nodes free)
  pub ordered : IsOrdered nodes all free
  pub same : book_of room nodes lists (ids_of nodes all) ≡ book
  pub full : free.last ≡ None → is_full book ≡ true

module _ (room : ℕ) (nodes : List Node) (lists : List ListEnds) (all free : ListEnds) (stored : IsStored room nodes lists (ids_of nodes all) (ids_of nodes free)) (both : IsOrdered nodes all free) where
  -- the ids in use
  abbrev used : List ForkId
  used = ids_of nodes all

  -- the list of the vacant ones, once the next is
  abbrev one : ListEnds
  one = hung_list (next nodes) empty_list

  -- where none is vacant and one was never given, it is
  next-provided : free.last ≡ None → length nodes < room → IsProvided (book_of room nodes lists used) room (more nodes) lists all one
  next-provided none left =
      let named = stored.named in
      let same = ids-is (more nodes) all used (list-more nodes None all used both.used) in
      let row : RowHasIds None (more nodes) one (next nodes ∷ []) = record { first = refl; last = refl; degree = refl; row = (next-near nodes, tt) } in
      let rest = ids-is (more nodes) one (next nodes ∷ []) row in
      let lacks = lacks-next nodes None used None both.used.row in
      let records = records-more nodes used named in
      let empty = none_last (ids_of nodes free) (sym both.free.last ∙ none) in
      let count : length (records_of nodes used) + 0 ≡ length nodes = ap (λ (ids : List ForkId). length (records_of nodes used) + length ids) (sym empty) ∙ stored.kept.all_ids in
      let longer = length-append nodes (blank_node (length nodes) ∷ []) in
      record {
        stored = rw (same, rest) record {
          kept = rw records record {
            sound = stored.kept.sound;
            free_ids = (is_in_use-named nodes used (next nodes) named ∙ lacks_unlisted (next nodes) used lacks, refl, tt);
            all_ids = omega arith;
            given_fit = omega arith;
          };
          named = named-more nodes used named;
          listed = λ slot below. rw records (list-more nodes (Some slot) (list_at lists slot) _ (stored.listed slot below));
        };
        ordered = ordered (more nodes) all one used (next nodes ∷ []) (list-more nodes None all used both.used) row (λ k. let o = both.once k in grind (arith, lacks, same_id-true (next nodes) k));
        same = ap (book_of room (more nodes) lists) same ∙ ap (λ (rs : List ForkRecord). record { slots = length lists; room = room; records = rs }) records;
        full = λ e. cc;
      }

  -- so what holds of the lists holds once a record is provided
  pub provided : IsProvided (book_of room nodes lists used) room (provided_nodes room nodes free) lists all (provided_list room nodes free)
  provided = elim (cases_Bool (wants_record room nodes free)) [
    | inl e ↦ let parts = and_parts (is_none free.last) (ltb (length nodes) room) e in rw e (next-provided (grind (arith, parts.0)) (grind (arith, nat_tests, parts.1)))
    | inr e ↦ rw e record { stored = stored; ordered = both; same = refl; full = λ none. grind (arith, nat_tests, none_last (ids_of nodes free), e) }
  ]
