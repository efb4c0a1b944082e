-- What an arbiter is left as by a task that joins or leaves, and by a conflict that is declared or ends.
use Rattle.dine_arbiter.proofs.Words.{◌≡◌, ℕ, ◌+◌, ◌-◌, ◌<◌, true, false, not, eqb, List, [], ◌∷◌, ◌++◌, length, get_or, set, map, Option, Some, None, is_some, inl, inr, refl, sym, ap, ◌∙◌, arith, add-one, length-append, ◌≢◌, leb, AllByRecursion, filter, list_any, cases_Bool, leb-false, eqb-true, length-set, Full, EndsPresent, has_end, state_of, state_in, same_task, is_between, are_in_conflict, is_full, refusal_of, newcomer, without, has_no_room, found, newcomers_slot-lt, passed, same_task-true, Task, Thinking, Diner, Seat, by_stamp, task_at, seats_last, ArePlaced, first_free, State, seat_state, is_sooner_at, ForkRecord, conflict_of, ForkId, fork_of_new, messages_of_new, length-map, map-append, new_fork}
use Rattle.dine_words.specs.declared.call.Call.TheVariants as call
use Rattle.dine_forks.specs.Book.{is_end, are_joined, is_full as is_full_book, with_record, is_between as is_between_slots}
use Rattle.dine_arbiter.specs.Records.{Fork}
use Rattle.dine_arbiter.proofs.Seated.{out_of_seat, by_stamp-latest, without-seats}
use Rattle.dine_arbiter.proofs.Seating.{in_range, state_at_slot, has_end-conflict_of, conflicts_left, forks_left, conflicts-set_apart, are_placed-set, placed_later, is_between-conflict_of}
use Rattle.dine_arbiter.proofs.Stamps.{first_free_free, free_slot-is, is_sooner_at-is, length-without, set-free, slots-apart, stamps-free, stamps-latest}
use Rattle.dine_arbiter.proofs.Kept.{Carried, IsKeptIn, book_with, carried, seen, table_by, table_in, has_seat, state_of-table_of}
use Rattle.dine_arbiter.specs.declared.arbiter.Arbiter.TheInside.{Inside}
use Rattle.dine_arbiter.proofs.Settling.{settles-settled}

-- ---- a free seat is an end of no conflict

-- it is no end where somebody is present
no_end : (clock : ℕ) (seats : List (Option Seat)) (i s : ℕ) → ArePlaced clock 0 seats → get_or seats i None ≡ None → is_some (state_in (by_stamp clock seats) (task_at seats s)) ≡ true → eqb i s ≡ false
no_end clock seats i s placed free some = grind (arith, eqb-true i s, state_at_slot clock seats s placed)

-- and no record has it
apart_from_free : (clock : ℕ) (seats : List (Option Seat)) (i : ℕ) (rs : List ForkRecord) → ArePlaced clock 0 seats → get_or seats i None ≡ None → EndsPresent (by_stamp clock seats) (map (conflict_of seats) rs) → AllByRecursion (λ r. is_end i r ≡ false) rs
apart_from_free clock seats i [] placed free p = tt
apart_from_free clock seats i (r ∷ rs) placed free p =
    (rw (no_end clock seats i r.first placed free p.0.0, no_end clock seats i r.second placed free p.0.1) refl, apart_from_free clock seats i rs placed free p.1)

-- the records without those of a slot have it at no end
apart_from_left : (i : ℕ) (rs : List ForkRecord) → AllByRecursion (λ r. is_end i r ≡ false) (filter (λ r. not (is_end i r)) rs)
apart_from_left i [] = tt
apart_from_left i (r ∷ rs) = elim (cases_Bool (is_end i r)) [ inl e ↦ rw e (apart_from_left i rs) | inr e ↦ rw e (e, apart_from_left i rs) ]

module _ (a : Inside) (kept : IsKeptIn a) where
  -- the next task to join gets the first free seat
  pub newcomer-is : newcomer (table_in a) ≡ record { slot = first_free a.seats; born = a.clock }
  newcomer-is = let of : ℕ → Task = λ s. record { slot = s; born = a.clock } in ap of (free_slot-is a.clock a.seats kept.placed)

  -- there is a free seat, and the count has room
  pub free_seat : refusal_of (table_in a) call.Join ≡ None → (first_free a.seats < length a.seats) × (a.present < a.limits.tasks)
  free_seat accepted =
      let less : length (by_stamp a.clock a.seats) < a.limits.tasks = leb-false a.limits.tasks (length (by_stamp a.clock a.seats)) (passed (is_full (table_in a)) Full None accepted).0 in
      let counted = kept.counted in
      let slot = free_slot-is a.clock a.seats kept.placed in
      let below = newcomers_slot-lt (table_in a) accepted in
      let fits = kept.seat_for_each_slot in
      (omega arith, omega arith)

  -- what is left once a task has joined
  pub carried-join : (u : Task) → u ≡ newcomer (table_in a) → refusal_of (table_in a) call.Join ≡ None
      → Carried (seen a) call.Join (seats_last u a.clock a.seats) (a.present + 1) (book_with a a.book.records) (a.clock + 1) a.limits 0
  carried-join u named accepted =
      let seat : Seat = record { diner = record { task = u; state = Thinking }; stamp = a.clock } in
      let new = seats_last u a.clock a.seats in
      let slot_is : u.slot ≡ first_free a.seats = ap (λ (w : Task). w.slot) (named ∙ newcomer-is) in
      let room = free_seat accepted in
      let lt : u.slot < length a.seats = omega arith in
      let free : get_or a.seats u.slot None ≡ None = ap (λ k. get_or a.seats k None) slot_is ∙ first_free_free a.seats in
      let of : Task → List Diner = λ w. by_stamp a.clock a.seats ++ record { task = w; state = Thinking } ∷ [] in
      let order : by_stamp (a.clock + 1) new ≡ of (newcomer (table_in a))
      = rw add-one (by_stamp-latest a.clock 0 a.seats u.slot seat kept.placed lt refl ∙ ap (λ xs. by_stamp a.clock xs ++ seat.diner ∷ []) (set-free a.seats u.slot free) ∙ ap of named) in
      let conflicts = conflicts-set_apart a.seats u.slot (Some seat) a.book.records (apart_from_free a.clock a.seats u.slot a.book.records kept.placed free kept.sound.ends_present) in
      let at_slot : u.slot ≡ 0 + u.slot = omega arith in
      let placed : ArePlaced (a.clock + 1) 0 new = are_placed-set (a.clock + 1) 0 a.seats u.slot (Some seat) (placed_later a.clock 0 a.seats kept.placed) (at_slot, omega arith) in
      let longer = length-append (by_stamp a.clock a.seats) (record { task = newcomer (table_in a); state = Thinking } ∷ []) in
      let counted = ap (λ n. n + 1) kept.counted ∙ sym longer ∙ ap length (sym order) in
      carried a kept call.Join new (a.present + 1) a.book.records (a.clock + 1) 0 accepted (table_by a.limits (a.clock + 1) _ _ _ _ order conflicts)
      (refl, refl) placed (stamps-latest a.clock a.seats u.slot seat kept.stamps_differ kept.placed lt refl) counted (length-set a.seats u.slot (Some seat))

  -- what is left once a task has left
  pub carried-leave : (u : Task) → refusal_of (table_in a) (call.Leave u) ≡ None
      → Carried (seen a) (call.Leave u) (set a.seats u.slot None) (a.present - 1) (book_with a (filter (λ r. not (is_end u.slot r)) a.book.records)) a.clock a.limits 0
  carried-leave u accepted =
      let thinks : state_of (table_in a) u ≡ Some Thinking = found Thinking (state_of (table_in a) u) accepted in
      let (x, at, is_u) = has_seat a kept u Thinking thinks in
      let lt : u.slot < length a.seats = in_range a.seats u.slot x at in
      let new = set a.seats u.slot None in
      let left = filter (λ r. not (is_end u.slot r)) a.book.records in
      let is_end_of : (r : ForkRecord) → has_end u (conflict_of a.seats r) ≡ is_end u.slot r = has_end-conflict_of a.clock a.seats u x kept.placed at is_u in
      let gone : out_of_seat u (get_or a.seats u.slot None) ≡ None = rw (at, is_u) refl in
      let order : by_stamp a.clock new ≡ without u (by_stamp a.clock a.seats) = sym (without-seats a.clock a.seats u kept.placed lt ∙ ap (λ o. by_stamp a.clock (set a.seats u.slot o)) gone) in
      let conflicts = conflicts-set_apart a.seats u.slot None left (apart_from_left u.slot a.book.records) ∙ sym (conflicts_left a.seats (has_end u) (is_end u.slot) is_end_of a.book.records) in
      let less = length-without u (by_stamp a.clock a.seats) kept.sound.each_once (ap is_some thinks) in
      let before = kept.counted in
      let same = ap length order in
      carried a kept (call.Leave u) new (a.present - 1) left a.clock 0 accepted (table_by a.limits a.clock _ _ _ _ order conflicts)
      (sym (forks_left a.seats (has_end u) (is_end u.slot) is_end_of a.book.records), refl) (are_placed-set a.clock 0 a.seats u.slot None kept.placed tt)
      (stamps-free a.seats u.slot kept.stamps_differ lt) (omega arith) (length-set a.seats u.slot None)

-- ---- a conflict is declared, or ends

module _ (a : Inside) (kept : IsKeptIn a) where
  -- the book is full where no further conflict has room
  pub full-is : is_full_book a.book ≡ has_no_room (table_in a)
  full-is = ap (λ n. leb n (length a.book.records)) kept.room_of_book ∙ ap (leb a.limits.conflicts) (sym (length-map a.book.records (conflict_of a.seats)))

  module _ (u v : Task) (x y : State) (hu : state_of (table_in a) u ≡ Some x) (hv : state_of (table_in a) v ≡ Some y) where
    -- a conflict is that of the two where its record joins their slots
    between : (r : ForkRecord) → is_between u v (conflict_of a.seats r) ≡ is_between_slots u.slot v.slot r
    between =
        let (p, at_u, is_u) = has_seat a kept u x hu in
        let (q, at_v, is_v) = has_seat a kept v y hv in
        is_between-conflict_of a.clock a.seats u v p q kept.placed at_u is_u at_v is_v

    -- two tasks are in conflict exactly where a record joins their slots
    pub joined-is : are_in_conflict (table_in a) u v ≡ are_joined u.slot v.slot a.book.records
    joined-is = go a.book.records
      where
        go : (rs : List ForkRecord) → list_any (is_between u v) (map (conflict_of a.seats) rs) ≡ are_joined u.slot v.slot rs
        go [] = refl
        go (r ∷ rs) = rw (between r, go rs) refl

    -- two tasks have two slots
    pub slots_differ : same_task u v ≡ false → u.slot ≢ v.slot
    slots_differ ne =
        let (p, at_u, is_u) = has_seat a kept u x hu in
        let (q, at_v, is_v) = has_seat a kept v y hv in
        slots-apart a.seats u v p q at_u is_u at_v is_v ne

    -- what is left once their conflict has ended
    pub carried-separate : refusal_of (table_in a) (call.Separate u v) ≡ None
        → Carried (seen a) (call.Separate u v) a.seats a.present (book_with a (filter (λ r. not (is_between_slots u.slot v.slot r)) a.book.records)) a.clock a.limits 0
    carried-separate accepted =
        carried a kept (call.Separate u v) a.seats a.present (filter (λ r. not (is_between_slots u.slot v.slot r)) a.book.records) a.clock 0 accepted
        (table_by a.limits a.clock _ _ _ _ refl (sym (conflicts_left a.seats (is_between u v) (is_between_slots u.slot v.slot) between a.book.records)))
        (sym (forks_left a.seats (is_between u v) (is_between_slots u.slot v.slot) between a.book.records), refl) kept.placed kept.stamps_differ kept.counted refl

    -- what is left once a conflict of theirs is declared
    pub carried-conflict : (id : ForkId) → same_task u v ≡ false → refusal_of (table_in a) (call.Conflict u v) ≡ None
        → Carried (seen a) (call.Conflict u v) a.seats a.present (book_with a (with_record id u.slot v.slot (fork_of_new a.seats u.slot v.slot) a.book.records)) a.clock a.limits (messages_of_new a.seats u.slot v.slot)
    carried-conflict id ne accepted =
        let (p, at_u, is_u) = has_seat a kept u x hu in
        let (q, at_v, is_v) = has_seat a kept v y hv in
        let g : Fork = fork_of_new a.seats u.slot v.slot in
        let r : ForkRecord = record { id = id; first = u.slot; second = v.slot; fork = g } in
        let pair : Task → Task → Task × Task = λ p q. (p, q) in
        let ends : conflict_of a.seats r ≡ pair u v = rw (at_u, at_v, same_task-true p.diner.task u is_u, same_task-true q.diner.task v is_v) refl in
        let conflicts : map (conflict_of a.seats) (a.book.records ++ r ∷ []) ≡ map (conflict_of a.seats) a.book.records ++ pair u v ∷ []
        = map-append (conflict_of a.seats) a.book.records (r ∷ []) ∙ ap (λ c. map (conflict_of a.seats) a.book.records ++ c ∷ []) ends in
        let state_u : state_of (table_in a) u ≡ Some (seat_state a.seats u.slot) = state_of-table_of a kept u ∙ rw (at_u, is_u) refl in
        let state_v : state_of (table_in a) v ≡ Some (seat_state a.seats v.slot) = state_of-table_of a kept v ∙ rw (at_v, is_v) refl in
        let stands = is_sooner_at-is a.clock a.seats u v p q kept.placed kept.stamps_differ at_u is_u at_v is_v in
        let settles = settles-settled (new_fork (is_sooner_at a.seats u.slot v.slot)) (seat_state a.seats u.slot) (seat_state a.seats v.slot) in
        carried a kept (call.Conflict u v) a.seats a.present (a.book.records ++ r ∷ []) a.clock (messages_of_new a.seats u.slot v.slot) accepted (table_by a.limits a.clock _ _ _ _ refl conflicts)
        (g, map-append (λ (w : ForkRecord). w.fork) a.book.records (r ∷ []), rw (← stands, state_u, state_v) settles) kept.placed kept.stamps_differ kept.counted refl
