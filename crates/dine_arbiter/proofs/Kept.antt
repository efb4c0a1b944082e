-- What an accepted call leaves: an arbiter that keeps what it keeps, and the table that is next.
use Rattle.dine_arbiter.proofs.Words.{◌≡◌, ℕ, ◌+◌, ◌<◌, true, List, [], ◌∷◌, length, get_or, set, map, Option, Some, None, is_some, refl, sym, ap, ◌∙◌, subst, arith, get_or-set_same, add-one, length-append, sum_by, list_all, length-map, length-set, Call, Limits, Table, same_task, state_of, acceptance_of, refusal_of, refusal_unless, changed_by, table_after_call, diner_put_in, with_state, without, moved_last, EndsPresent, IsSound, diner_put_in-task, found, or_else-None, same_task-refl, same_task-true, sound_after_call, ForkBook, changed_where, is_end, slot_list, dirtied, dirtied_at, ForksAgree, SettlesAround, ChangesForks, Task, State, Thinking, Hungry, Eating, Diner, Seat, by_stamp, put_in_seat, seats_put, seats_last, state_at, state_of_seat, seat_state, task_in_seat, ArePlaced, StampsDiffer, ForkRecord, conflict_of, withdrawn_at, withdrawn_fork, withdrawal_messages_of, settles, walked_at, walked_fork, Reach, Arbiter, CarriesOut, IsKeptArbiter, table_of, forks_of}
use Rattle.dine_words.specs.declared.call.Call.TheVariants as call
use Rattle.dine_arbiter.specs.declared.arbiter.Arbiter.TheInside.{Inside}
use Rattle.dine_arbiter.specs.Records.{Fork}
use Rattle.dine_arbiter.proofs.SlotEdges.{is_lawful_beside}
use Rattle.dine_arbiter.proofs.SlotWalks.{Comes, finish_comes, hunger_comes, settling_cost, walk_costs}
use Rattle.dine_arbiter.proofs.Lawful.{lawful-around, slots-differ, state-put, state-seated}
use Rattle.dine_forks.specs.declared.rules.Reach.TheVariants as within
use Rattle.dine_arbiter.proofs.Following.{cost_of-le, forks_follow}
use Rattle.dine_arbiter.proofs.Seated.{placed_at, state_in-by_stamp, with_state-seats, moved_last-seats}
use Rattle.dine_arbiter.proofs.Seating.{in_range, seated, settles_around, dirtied_around-records, conflicts-changed, conflicts-set, task_in-put_in_seat, placed-put_in_seat, are_placed-set, placed_later, withdrawn_around-records, withdrawal_messages-records}
use Rattle.dine_arbiter.proofs.Stamps.{length-without, stamps-put, stamps-latest}

-- ---- what is seen

-- the table that the parts of an arbiter stand for
abbrev pub table_in : Inside → Table
table_in a = table_of a.seats a.book.records a.clock a.limits

-- what an arbiter with these parts is seen as
abbrev pub seen : Inside → Arbiter
seen a = record { table = table_in a; forks = forks_of a.book.records; messages = a.messages }

-- the parts keep what an arbiter keeps
abbrev pub IsKeptIn : Inside → Type 0
IsKeptIn a = IsKeptArbiter a.seats a.present a.book a.clock a.limits

-- the book with other records
abbrev pub book_with : Inside → List ForkRecord → ForkBook
book_with a records = record { slots = a.book.slots; room = a.book.room; records = records }

-- an accepted call leaves these parts, at the cost of n messages
pub record Carried (v : Arbiter) (c : Call) (seats : List (Option Seat)) (present : ℕ) (book : ForkBook) (clock : ℕ) (limits : Limits) (n : ℕ) : Type 0 where
  pub kept : IsKeptArbiter seats present book clock limits
  pub done : CarriesOut v c (acceptance_of v.table c) (record { table = table_of seats book.records clock limits; forks = forks_of book.records; messages = n })

-- a table by its parts
abbrev pub table_with : Limits → ℕ → List Diner → List (Task × Task) → Table
table_with limits clock order conflicts = record { order = order; conflicts = conflicts; clock = clock; limits = limits }

-- equal parts make one table
pub table_by : (limits : Limits) (clock : ℕ) (o o' : List Diner) (cs cs' : List (Task × Task)) → o ≡ o' → cs ≡ cs' → table_with limits clock o cs ≡ table_with limits clock o' cs'
table_by limits clock o o' cs cs' same_order same_conflicts = ap (λ x. table_with limits clock x cs) same_order ∙ ap (table_with limits clock o') same_conflicts

module _ (a : Inside) (kept : IsKeptIn a) where
  -- the table after an accepted call is sound
  sound_after : (c : Call) → refusal_of (table_in a) c ≡ None → IsSound (changed_by (table_in a) c)
  sound_after c accepted = rw accepted at (sound_after_call (table_in a) c kept.sound)

  -- what is left is kept where the table is the next one and the forks follow
  pub carried : (c : Call) (seats : List (Option Seat)) (present : ℕ) (records : List ForkRecord) (clock n : ℕ) → refusal_of (table_in a) c ≡ None
      → table_of seats records clock a.limits ≡ changed_by (table_in a) c → ChangesForks (table_in a) c (forks_of a.book.records) (forks_of records) n
      → ArePlaced clock 0 seats → StampsDiffer seats → present ≡ length (by_stamp clock seats) → length seats ≡ length a.seats
      → Carried (seen a) c seats present (book_with a records) clock a.limits n
  carried c seats present records clock n accepted next follows placed differ counted fits =
      let is_next : table_of seats records clock a.limits ≡ table_after_call (table_in a) c = rw accepted next in
      let all = forks_follow (table_in a) c (forks_of a.book.records) (forks_of records) n kept.sound kept.agree (rw accepted follows) in
      let agree = subst (λ x. ForksAgree x (forks_of records)) (sym is_next) all.0 in
      record {
        kept = record {
          placed = placed;
          stamps_differ = differ;
          counted = counted;
          agree = agree;
          sound = subst IsSound (sym next) (sound_after c accepted);
          seat_for_each_slot = fits ∙ kept.seat_for_each_slot;
          slots_of_book = kept.slots_of_book;
          room_of_book = kept.room_of_book;
        };
        done = record {
          reply = rw accepted refl;
          table = is_next;
          agree = agree;
          forks = rw accepted follows;
          messages = all.1;
          few = rw all.1 (cost_of-le (table_in a) c);
        };
      }

  module _ (u : Task) where
    -- the table's state is the seat's
    pub state_of-table_of : state_of (table_in a) u ≡ state_at a.seats u
    state_of-table_of = state_in-by_stamp a.clock a.seats u kept.placed

    -- a task that is present has a seat
    pub has_seat : (s : State) → state_of (table_in a) u ≡ Some s → (x : Seat) × (get_or a.seats u.slot None ≡ Some x) × (same_task x.diner.task u ≡ true)
    has_seat s h = seated a.seats u s (sym state_of-table_of ∙ h)

    -- ---- u gets another state

    -- the edges of u are lawful by the state that it has, also once its seat is another
    pub lawful_in : (x : State) (o : Option Seat) → state_at a.seats u ≡ Some x → list_all (is_lawful_beside x (set a.seats u.slot o) u.slot) (slot_list u.slot a.book.records) ≡ true
    lawful_in x o h = lawful-around a.clock a.seats u.slot o x kept.placed (state-seated a.seats u x h) a.book.records (slots-differ a.seats a.book.records kept.sound.ends_differ) kept.agree

    -- a walk settles the records of u as its new seat tells, where the order and the conflicts are these
    settles_in : (r : Reach) (was own : State) → Comes r was own → (clock : ℕ) (o : Option Seat) (x : Seat) (order : List Diner) → let new = set a.seats u.slot o in
        ArePlaced clock 0 new → get_or new u.slot None ≡ Some x → same_task x.diner.task u ≡ true → seat_state new u.slot ≡ own → state_at a.seats u ≡ Some was
        → by_stamp clock new ≡ order → map (conflict_of new) a.book.records ≡ map (conflict_of a.seats) a.book.records → EndsPresent order (map (conflict_of a.seats) a.book.records)
        → SettlesAround u order (map (conflict_of a.seats) a.book.records) (forks_of a.book.records) (forks_of (map (walked_at r (settles own (seat_state new)) u.slot) a.book.records))
        (sum_by (walk_costs r (settling_cost own (seat_state new)) u.slot) (slot_list u.slot a.book.records))
    settles_in r was own comes clock o x order placed at same here had is_order is_conflicts present =
        rw (is_order, is_conflicts) at (settles_around clock (set a.seats u.slot o) u x placed at same r was own comes here a.book.records (rw (is_order, is_conflicts) present) (lawful_in was o had))

    module _ (s : State) (lt : u.slot < length a.seats) where
      -- u is in another state in the order
      order-put : by_stamp a.clock (seats_put s u a.seats) ≡ with_state s u (by_stamp a.clock a.seats)
      order-put = sym (with_state-seats a.clock a.seats s u kept.placed lt)

      -- its conflicts stay
      conflicts-put : map (conflict_of (seats_put s u a.seats)) a.book.records ≡ map (conflict_of a.seats) a.book.records
      conflicts-put = conflicts-set a.seats u.slot (put_in_seat s u (get_or a.seats u.slot None)) a.book.records lt (task_in-put_in_seat s u u.slot (get_or a.seats u.slot None))

      -- and all seats are placed
      placed-put : ArePlaced a.clock 0 (seats_put s u a.seats)
      placed-put = are_placed-set a.clock 0 a.seats u.slot _ kept.placed (placed-put_in_seat a.clock (0 + u.slot) s u (get_or a.seats u.slot None) (placed_at a.clock 0 a.seats u.slot kept.placed))

      -- the parts that are left where u gets the state, and the forks of its records follow
      carried-put : (c : Call) (change : ForkRecord → Fork) (n : ℕ) → refusal_of (table_in a) c ≡ None
          → changed_by (table_in a) c ≡ table_with a.limits a.clock (with_state s u (by_stamp a.clock a.seats)) (map (conflict_of a.seats) a.book.records)
          → ChangesForks (table_in a) c (forks_of a.book.records) (forks_of (map (changed_where (is_end u.slot) change) a.book.records)) n
          → Carried (seen a) c (seats_put s u a.seats) a.present (book_with a (map (changed_where (is_end u.slot) change) a.book.records)) a.clock a.limits n
      carried-put c change n accepted next follows =
          carried c (seats_put s u a.seats) a.present (map (changed_where (is_end u.slot) change) a.book.records) a.clock n accepted
          (table_by a.limits a.clock _ _ _ _ order-put (conflicts-changed (seats_put s u a.seats) (is_end u.slot) change a.book.records ∙ conflicts-put) ∙ sym next) follows
          placed-put (stamps-put a.seats s u kept.stamps_differ lt) (kept.counted ∙ sym (ap length order-put ∙ length-map (by_stamp a.clock a.seats) (diner_put_in s u)))
          (length-set a.seats u.slot (put_in_seat s u (get_or a.seats u.slot None)))

    -- what is left once u has grown hungry
    pub carried-hungry : refusal_of (table_in a) (call.Hungry u) ≡ None → let new = seats_put Hungry u a.seats in
        Carried (seen a) (call.Hungry u) new a.present (book_with a (map (walked_at within.Lacked (settles Hungry (seat_state new)) u.slot) a.book.records)) a.clock a.limits
        (sum_by (walk_costs within.Lacked (settling_cost Hungry (seat_state new)) u.slot) (slot_list u.slot a.book.records))
    carried-hungry accepted =
        let thinks : state_at a.seats u ≡ Some Thinking = sym state_of-table_of ∙ found Thinking (state_of (table_in a) u) accepted in
        let (x, at, is_u) = seated a.seats u Thinking thinks in
        let lt = in_range a.seats u.slot x at in let new = seats_put Hungry u a.seats in
        let here = get_or-set_same a.seats u.slot (put_in_seat Hungry u (get_or a.seats u.slot None)) None lt ∙ ap (put_in_seat Hungry u) at in
        carried-put Hungry lt (call.Hungry u) (walked_fork within.Lacked (settles Hungry (seat_state new)) u.slot) _ accepted refl
        (settles_in within.Lacked Thinking Hungry hunger_comes a.clock _ _ _ (placed-put Hungry lt) here (ap (λ w. same_task w u) (diner_put_in-task Hungry u x.diner) ∙ is_u) (state-put a.seats u Thinking Hungry thinks) thinks
        (order-put Hungry lt) (conflicts-put Hungry lt) (sound_after (call.Hungry u) accepted).ends_present)

    -- what is left once u has begun to eat
    pub carried-begin : refusal_of (table_in a) (call.Begin u) ≡ None
        → Carried (seen a) (call.Begin u) (seats_put Eating u a.seats) a.present (book_with a (map (dirtied_at u.slot) a.book.records)) a.clock a.limits 0
    carried-begin accepted =
        let parts = or_else-None (refusal_unless Hungry (state_of (table_in a) u)) _ accepted in
        let (x, at, is_u) = has_seat Hungry (found Hungry (state_of (table_in a) u) parts.0) in
        carried-put Eating (in_range a.seats u.slot x at) (call.Begin u) (λ r. dirtied r.fork) 0 accepted refl (sym (dirtied_around-records a.clock a.seats u x kept.placed at is_u a.book.records), refl)

    -- what is left once u has withdrawn
    pub carried-withdraw : refusal_of (table_in a) (call.Withdraw u) ≡ None
        → Carried (seen a) (call.Withdraw u) (seats_put Thinking u a.seats) a.present (book_with a (map (withdrawn_at u.slot) a.book.records)) a.clock a.limits
        (sum_by (withdrawal_messages_of u.slot) (slot_list u.slot a.book.records))
    carried-withdraw accepted =
        let (x, at, is_u) = has_seat Hungry (found Hungry (state_of (table_in a) u) accepted) in
        carried-put Thinking (in_range a.seats u.slot x at) (call.Withdraw u) (withdrawn_fork u.slot) _ accepted refl
        (sym (withdrawn_around-records a.clock a.seats u x kept.placed at is_u a.book.records), sym (withdrawal_messages-records a.clock a.seats u x kept.placed at is_u a.book.records))

    -- what is left once u has finished
    pub carried-finish : refusal_of (table_in a) (call.Finish u) ≡ None → let new = seats_last u a.clock a.seats in
        Carried (seen a) (call.Finish u) new a.present (book_with a (map (walked_at within.Asked (settles Thinking (seat_state new)) u.slot) a.book.records)) (a.clock + 1) a.limits
        (sum_by (walk_costs within.Asked (settling_cost Thinking (seat_state new)) u.slot) (slot_list u.slot a.book.records))
    carried-finish accepted =
        let eats : state_of (table_in a) u ≡ Some Eating = found Eating (state_of (table_in a) u) accepted in
        let (x, at, is_u) = has_seat Eating eats in
        let lt : u.slot < length a.seats = in_range a.seats u.slot x at in
        let seat : Seat = record { diner = record { task = u; state = Thinking }; stamp = a.clock } in
        let new = seats_last u a.clock a.seats in let change = walked_fork within.Asked (settles Thinking (seat_state new)) u.slot in
        let old = by_stamp a.clock a.seats in
        let order : by_stamp (a.clock + 1) new ≡ moved_last u old = rw add-one (sym (moved_last-seats a.clock a.seats u x kept.placed lt at is_u)) in
        let conflicts = conflicts-set a.seats u.slot (Some seat) a.book.records lt (sym (same_task-true x.diner.task u is_u) ∙ sym (ap (task_in_seat u.slot) at)) in
        let slot_is : u.slot ≡ 0 + u.slot = omega arith in
        let placed : ArePlaced (a.clock + 1) 0 new = are_placed-set (a.clock + 1) 0 a.seats u.slot (Some seat) (placed_later a.clock 0 a.seats kept.placed) (slot_is, omega arith) in
        let counted = kept.counted ∙ sym (ap length order ∙ length-append (without u old) (seat.diner ∷ []) ∙ length-without u old kept.sound.each_once (ap is_some eats)) in
        let here = get_or-set_same a.seats u.slot (Some seat) None lt in
        carried (call.Finish u) new a.present (map (changed_where (is_end u.slot) change) a.book.records) (a.clock + 1) _ accepted
        (table_by a.limits (a.clock + 1) _ _ _ _ order (conflicts-changed new (is_end u.slot) change a.book.records ∙ conflicts))
        (settles_in within.Asked Eating Thinking finish_comes (a.clock + 1) _ _ _ placed here (same_task-refl u) (ap state_of_seat here) (sym state_of-table_of ∙ eats) order conflicts (sound_after (call.Finish u) accepted).ends_present)
        placed (stamps-latest a.clock a.seats u.slot seat kept.stamps_differ kept.placed lt refl) counted (length-set a.seats u.slot (Some seat))
