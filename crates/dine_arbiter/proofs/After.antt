-- What the parts of an arbiter tell of what it is seen as, and what an accepted call leaves.
use Rattle.dine_arbiter.proofs.Words.{◌≡◌, ℕ, zero, suc, ◌+◌, ◌*◌, ◌<◌, true, not, List, [], ◌∷◌, length, get_or, map, replicate, Option, Some, None, IsSome, is_some, refl, sym, ap, ◌∙◌, subst, arith, eqb, inl, inr, cases_Bool, eq-eqb, ne_eqb, filter, list_all, sum_by, length-replicate, Refusal, Refused, Limits, Table, same_task, state_of, are_in_conflict, is_ready, neighbours_of, stands_before, has_no_room, refusal_of, refusal_unless, newcomer, found, or_else-None, ready_if, same_task-refl, same_task-true, sound_at_opening, is_met_at, walked_at, count_in, has_dirty_pair, has_token_alone, settles, Task, State, Thinking, Hungry, Eating, Seat, ArePlaced, seat_state, seats_last, seats_put, state_at, state_in_seat, first_free, stands_before_at, MayLink, withdrawal_messages_of, withdrawn_at, ForkId, ForkRecord, conflict_of, neighbour_at, fork_of_new, messages_of_new, Arbiter, CarriesOut, IsKeptArbiter, forks_of, slots_of, Call, IsSound, ForksAgree}
use Rattle.dine_words.specs.declared.call.Call.TheVariants as call
use Rattle.dine_forks.specs.Book.{ForkBook, empty_book, are_joined, holds, slot_list, with_record, is_between as is_between_slots, ends_of}
use Rattle.dine_forks.specs.declared.rules.Reach.TheVariants as within
use Rattle.dine_arbiter.proofs.Seated.{placed_seat}
use Rattle.dine_arbiter.proofs.Seating.{in_range, seated, slot-task_at, neighbours_in-records}
use Rattle.dine_arbiter.proofs.Kept.{Carried, IsKeptIn, book_with, lawful_in, seen, table_in, has_seat, state_of-table_of}
use Rattle.dine_arbiter.specs.declared.arbiter.Arbiter.TheInside.{Inside}
use Rattle.dine_arbiter.proofs.SlotWalks.{settling_cost, walk_costs, hunger-reckoned, finish-reckoned, withdrawal-reckoned, all_met, finish_meets, hunger_meets}
use Rattle.dine_arbiter.proofs.Lawful.{slots-differ}
use Rattle.dine_arbiter.proofs.Members.{newcomer-is, free_seat, carried-join, full-is, joined-is, slots_differ, carried-separate, carried-conflict}
use Rattle.dine_arbiter.proofs.Stamps.{stands_before_at-is}
use Rattle.dine_arbiter.proofs.Agreement.{ready-holds}
use Rattle.dine_arbiter.proofs.Following.{conflict_tells, early_passed, two_passed}

-- ---- at the opening

-- free seats are placed
placed-free : (n slot : ℕ) → ArePlaced 0 slot (replicate n None)
placed-free zero slot = tt
placed-free (suc n) slot = (tt, placed-free n (slot + 1))

-- and are free
get-free : (n i : ℕ) → get_or (replicate n (let o : Option Seat = None in o)) i None ≡ None
get-free zero i = refl
get-free (suc n) zero = refl
get-free (suc n) (suc i) = get-free n i

-- so the parts of a new arbiter keep what they have to
pub kept-opening : (limits : Limits) (seats : List (Option Seat)) (book : ForkBook) → seats ≡ replicate limits.tasks None → book ≡ empty_book limits.tasks limits.conflicts → IsKeptArbiter seats 0 book 0 limits
kept-opening limits seats book free empty =
    let opening : List (Option Seat) = replicate limits.tasks None in
    let here : IsKeptArbiter opening 0 (empty_book limits.tasks limits.conflicts) 0 limits = record {
      placed = placed-free limits.tasks 0;
      stamps_differ = λ i j x y at _ _. absurd (let k : None ≡ Some x = sym (get-free limits.tasks i) ∙ at in cc);
      counted = refl;
      agree = tt;
      sound = sound_at_opening limits;
      seat_for_each_slot = length-replicate limits.tasks None;
      slots_of_book = refl;
      room_of_book = refl;
    } in
    subst (λ s. IsKeptArbiter s 0 book 0 limits) (sym free) (subst (λ b. IsKeptArbiter opening 0 b 0 limits) (sym empty) here)

module _ (a : Inside) {v : Arbiter} (is : seen a ≡ v) (kept : IsKeptIn a) where
  -- the table that is seen is that of the parts
  pub table_is : table_in a ≡ v.table
  table_is = ap (λ (w : Arbiter). w.table) is

  -- what an accepted call leaves of the parts is left of what is seen
  pub left : {c : Call} {seats : List (Option Seat)} {present clock n : ℕ} {book : ForkBook} {limits : Limits}
      → (refusal_of (table_in a) c ≡ None → Carried (seen a) c seats present book clock limits n) → refusal_of v.table c ≡ None → Carried v c seats present book clock limits n
  left {c} {seats} {present} {clock} {n} {book} {limits} = subst (λ w. refusal_of w.table c ≡ None → Carried w c seats present book clock limits n) is

  -- ---- questions

  -- a task's seat tells its state
  pub seen_state : (u : Task) → state_at a.seats u ≡ state_of v.table u
  seen_state u = sym (state_of-table_of a kept u) ∙ ap (λ t. state_of t u) table_is

  -- a seat tells a task that is present, and its slot
  pub seen_seat : (slot : ℕ) (x : Seat) → get_or a.seats slot None ≡ Some x → (x.diner.task.slot ≡ slot) × IsSome (state_of v.table x.diner.task)
  seen_seat slot x at =
      let here : x.diner.task.slot ≡ slot = (placed_seat a.clock a.seats slot x kept.placed at).0 in
      let state : state_at a.seats x.diner.task ≡ Some x.diner.state = ap (λ k. state_in_seat x.diner.task (get_or a.seats k None)) here ∙ ap (state_in_seat x.diner.task) at ∙ rw (same_task-refl x.diner.task) refl in
      (here, subst (λ (o : Option State). IsSome o) (sym (sym (seen_state x.diner.task) ∙ state)) refl)

  -- and each task that is present is told by the seat at its slot
  pub seen_by_slot : (slot : ℕ) (u : Task) → u.slot ≡ slot → IsSome (state_of v.table u) → (x : Seat) × (get_or a.seats slot None ≡ Some x) × (x.diner.task ≡ u)
  seen_by_slot slot u here there =
      let (s, is) = some_state (state_of v.table u) there in
      let (x, at, same) = seated a.seats u s (seen_state u ∙ is) in
      (x, subst (λ k. get_or a.seats k None ≡ Some x) here at, same_task-true x.diner.task u same)
    where
      some_state : (o : Option State) → IsSome o → (s : State) × (o ≡ Some s)
      some_state None h = absurd cc
      some_state (Some s) h = (s, refl)

  -- a state that is seen is that in the parts
  state_inside : (u : Task) (x : State) → state_of v.table u ≡ Some x → state_of (table_in a) u ≡ Some x
  state_inside u x h = ap (λ t. state_of t u) table_is ∙ h

  -- the seats tell who stands before whom
  pub seen_before : (u w : Task) → stands_before_at a.seats u w ≡ stands_before v.table.order u w
  seen_before u w = stands_before_at-is a.clock a.seats kept.placed kept.stamps_differ u w ∙ ap (λ (t : Table). stands_before t.order u w) table_is

  -- the ends of the records are the slots of the conflicts
  pub seen_ends : map ends_of a.book.records ≡ map slots_of v.table.conflicts
  seen_ends = go a.book.records ∙ ap (λ (t : Table). map slots_of t.conflicts) table_is
    where
      go : (rs : List ForkRecord) → map ends_of rs ≡ map slots_of (map (conflict_of a.seats) rs)
      go [] = refl
      go (r ∷ rs) = rw (slot-task_at a.clock a.seats r.first kept.placed, slot-task_at a.clock a.seats r.second kept.placed, go rs) refl

  -- a hungry task is ready where its slot holds all of its forks
  pub seen_ready : (u : Task) → state_of v.table u ≡ Some Hungry → list_all (holds u.slot) (slot_list u.slot a.book.records) ≡ is_ready v.table u
  seen_ready u h = sym (ready-holds v.table (subst IsSound table_is kept.sound) u (ap is_some h) h a.book.records (forks_of a.book.records) seen_ends refl (subst (λ t. ForksAgree t (forks_of a.book.records)) table_is kept.agree))

  -- the first free seat and the clock name the next task
  pub seen_newcomer : record { slot = first_free a.seats; born = a.clock } ≡ newcomer v.table
  seen_newcomer = sym (newcomer-is a kept) ∙ ap newcomer table_is

  -- two tasks are in conflict where a record joins their slots
  pub seen_joined : (u w : Task) (x y : State) → state_of v.table u ≡ Some x → state_of v.table w ≡ Some y → are_joined u.slot w.slot a.book.records ≡ are_in_conflict v.table u w
  seen_joined u w x y hu hw = sym (joined-is a kept u w x y (state_inside u x hu) (state_inside w y hw)) ∙ ap (λ t. are_in_conflict t u w) table_is

  -- tasks that are present are the same where their slots are
  pub seen_same : (u w : Task) (x y : State) → state_of v.table u ≡ Some x → state_of v.table w ≡ Some y → eqb u.slot w.slot ≡ same_task u w
  seen_same u w x y hu hw = elim (cases_Bool (same_task u w)) [
    | inl e ↦ eq-eqb u.slot w.slot (ap (λ (t : Task). t.slot) (same_task-true u w e)) ∙ sym e
    | inr e ↦ ne_eqb u.slot w.slot (slots_differ a kept u w x y (state_inside u x hu) (state_inside w y hw) e) ∙ sym e
  ]

  -- the other ends of a slot's records have the neighbours of its task
  pub seen_neighbours : (u : Task) (x : State) → state_of v.table u ≡ Some x → map (neighbour_at a.seats u.slot) (slot_list u.slot a.book.records) ≡ neighbours_of v.table u
  seen_neighbours u x h =
      let (y, at, is_u) = has_seat a kept u x (state_inside u x h) in
      sym (neighbours_in-records a.clock a.seats u y kept.placed at is_u a.book.records) ∙ ap (λ t. neighbours_of t u) table_is

  -- a task in a state has its seat
  pub seated_in : (u : Task) (x : State) → refusal_unless x (state_of v.table u) ≡ None → state_at a.seats u ≡ Some x
  seated_in u x h = seen_state u ∙ found x (state_of v.table u) h

  -- and so does whoever begins
  pub seated_begin : (u : Task) → refusal_of v.table (call.Begin u) ≡ None → state_at a.seats u ≡ Some Hungry
  seated_begin u h = seated_in u Hungry (or_else-None (refusal_unless Hungry (state_of v.table u)) _ h).0

  -- ---- slots in range

  -- whoever is present has a seat, and a slot of the book
  pub reach : (u : Task) (x : State) → state_of v.table u ≡ Some x → (u.slot < length a.seats) × (u.slot < a.book.slots)
  reach u x h =
      let (y, at, _) = has_seat a kept u x (state_inside u x h) in
      let below = in_range a.seats u.slot y at in let seats_of = kept.seat_for_each_slot in let slots_of = kept.slots_of_book in
      (below, omega arith)

  -- and so has whoever isn't refused
  pub reach_in : (u : Task) (x : State) → refusal_unless x (state_of v.table u) ≡ None → (u.slot < length a.seats) × (u.slot < a.book.slots)
  reach_in u x h = reach u x (found x (state_of v.table u) h)

  -- and so has whoever begins
  pub reach_begin : (u : Task) → refusal_of v.table (call.Begin u) ≡ None → (u.slot < length a.seats) × (u.slot < a.book.slots)
  reach_begin u h = reach_in u Hungry (or_else-None (refusal_unless Hungry (state_of v.table u)) _ h).0

  -- whoever may begin holds all its forks
  pub holds_begin : (u : Task) → refusal_of v.table (call.Begin u) ≡ None → list_all (holds u.slot) (slot_list u.slot a.book.records) ≡ true
  holds_begin u h =
      let parts = or_else-None (refusal_unless Hungry (state_of v.table u)) _ h in
      seen_ready u (found Hungry (state_of v.table u) parts.0) ∙ ready_if (is_ready v.table u) parts.1

  -- whoever joins has a seat
  pub reach_join : refusal_of v.table call.Join ≡ None → (first_free a.seats < length a.seats) × (a.present < a.limits.tasks)
  reach_join h = free_seat a kept (ap (λ t. refusal_of t call.Join) table_is ∙ h)

  -- a conflict that isn't refused may be linked
  pub may_link : (u w : Task) → refusal_of v.table (call.Conflict u w) ≡ None → MayLink a.seats a.book u.slot w.slot
  may_link u w h =
      let (x, y, hu, hw, ne, apart, _, room) = conflict_tells v.table u w h in
      record {
        first_seat = (reach u x hu).0;
        second_seat = (reach w y hw).0;
        slots = record {
          differ = slots_differ a kept u w x y (state_inside u x hu) (state_inside w y hw) ne;
          first = (reach u x hu).1;
          second = (reach w y hw).1;
          apart = seen_joined u w x y hu hw ∙ apart;
        };
        room = full-is a kept ∙ ap (λ t. has_no_room t) table_is ∙ room;
      }

  -- ---- calls that tell more of their tasks

  -- the forks that it lacks are such as it asks for
  pub met_hunger : (u : Task) → refusal_of v.table (call.Hungry u) ≡ None → list_all (is_met_at within.Lacked has_token_alone u.slot) (slot_list u.slot a.book.records) ≡ true
  met_hunger u accepted = all_met within.Lacked Thinking has_token_alone hunger_meets _ u.slot (slot_list u.slot a.book.records) (lawful_in a kept u Thinking None (seated_in u Thinking accepted))

  -- and those that one who has eaten is asked for are such as it gives up
  pub met_finish : (u : Task) → refusal_of v.table (call.Finish u) ≡ None → list_all (is_met_at within.Asked has_dirty_pair u.slot) (slot_list u.slot a.book.records) ≡ true
  met_finish u accepted = all_met within.Asked Eating has_dirty_pair finish_meets _ u.slot (slot_list u.slot a.book.records) (lawful_in a kept u Eating None (seated_in u Eating accepted))

  -- what the counts of a slot tell of the messages of a hunger
  pub told_hunger : (u : Task) → refusal_of v.table (call.Hungry u) ≡ None → let new = seats_put Hungry u a.seats in let after = map (walked_at within.Lacked (settles Hungry (seat_state new)) u.slot) a.book.records in
      2 * (count_in a.book.records u.slot).lacked + (count_in after u.slot).asked ≡ sum_by (walk_costs within.Lacked (settling_cost Hungry (seat_state new)) u.slot) (slot_list u.slot a.book.records) + (count_in after u.slot).lacked + (count_in a.book.records u.slot).asked
  told_hunger u accepted = hunger-reckoned _ u.slot a.book.records (slots-differ a.seats a.book.records kept.sound.ends_differ) (lawful_in a kept u Thinking _ (seated_in u Thinking accepted))

  -- of a meal's end
  pub told_finish : (u : Task) → refusal_of v.table (call.Finish u) ≡ None → let new = seats_last u a.clock a.seats in
      (count_in a.book.records u.slot).asked ≡ sum_by (walk_costs within.Asked (settling_cost Thinking (seat_state new)) u.slot) (slot_list u.slot a.book.records)
  told_finish u accepted = finish-reckoned _ u.slot a.book.records (slots-differ a.seats a.book.records kept.sound.ends_differ) (lawful_in a kept u Eating (Some record { diner = record { task = u; state = Thinking }; stamp = a.clock }) (seated_in u Eating accepted))

  -- and of a withdrawal
  pub told_withdrawal : (u : Task) → refusal_of v.table (call.Withdraw u) ≡ None → let after = map (withdrawn_at u.slot) a.book.records in
      2 * (count_in after u.slot).lacked + (count_in after u.slot).asked ≡ sum_by (withdrawal_messages_of u.slot) (slot_list u.slot a.book.records) + (count_in a.book.records u.slot).lacked + (count_in a.book.records u.slot).asked
  told_withdrawal u accepted = withdrawal-reckoned _ u.slot a.book.records (slots-differ a.seats a.book.records kept.sound.ends_differ) (lawful_in a kept u Hungry None (seated_in u Hungry accepted))

  -- what is left once a task has joined
  pub after_join : (u : Task) → u ≡ newcomer v.table → refusal_of v.table call.Join ≡ None
      → Carried v call.Join (seats_last u a.clock a.seats) (a.present + 1) a.book (a.clock + 1) a.limits 0
  after_join u named = left (carried-join a kept u (named ∙ ap newcomer (sym table_is)))

  -- what is left once the conflict of two tasks has ended
  pub after_separate : (u w : Task) → refusal_of v.table (call.Separate u w) ≡ None
      → Carried v (call.Separate u w) a.seats a.present (book_with a (filter (λ r. not (is_between_slots u.slot w.slot r)) a.book.records)) a.clock a.limits 0
  after_separate u w h =
      let (x, y, hu, hw, _) = two_passed v.table u w (early_passed v.table (call.Separate u w) h) in
      left (carried-separate a kept u w x y (state_inside u x hu) (state_inside w y hw)) h

  -- a refused call leaves all but the messages
  pub refused : (c : Call) (r : Refusal) → refusal_of v.table c ≡ Some r → CarriesOut v c (Refused r) (record { table = table_in a; forks = forks_of a.book.records; messages = 0 })
  refused c r = subst (λ w. refusal_of w.table c ≡ Some r → CarriesOut w c (Refused r) (record { table = table_in a; forks = forks_of a.book.records; messages = 0 })) is
      (λ h. record { reply = rw h refl; table = rw h refl; agree = kept.agree; forks = rw h (refl, refl); messages = rw h refl; few = omega arith })

  -- what is left once a conflict is declared
  pub after_conflict : (u w : Task) (id : ForkId) → refusal_of v.table (call.Conflict u w) ≡ None
      → Carried v (call.Conflict u w) a.seats a.present (book_with a (with_record id u.slot w.slot (fork_of_new a.seats u.slot w.slot) a.book.records)) a.clock a.limits (messages_of_new a.seats u.slot w.slot)
  after_conflict u w id h =
      let (x, y, hu, hw, ne, apart, _, room) = conflict_tells v.table u w h in
      left (carried-conflict a kept u w x y (state_inside u x hu) (state_inside w y hw) id ne) h
