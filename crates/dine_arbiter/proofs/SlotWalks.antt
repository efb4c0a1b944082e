-- What the walks of a slot bring to rest. A task that grows hungry has nothing to send for the forks that it has, where its
-- edges are lawful, and one that has eaten has nothing to send for those that nobody asked for. So a walk of the others settles
-- all of its edges.
use Rattle.dine_arbiter.proofs.Words.{◌≡◌, ◌≢◌, ℕ, suc, ◌+◌, ◌*◌, ◌==◌, Bool, true, false, not, ◌||◌, if◌then◌else◌, length, arith, cond, eqb, List, [], ◌∷◌, map, Option, inl, inr, refl, subst, sym, ap, AllByRecursion, filter, list_all, sum_by, and_parts, cases_Bool, eqb-true, nat_tests, sum_by-cons, Reach, is_end, other_end, slot_list, met-anyhow, is_met_at, is_reached, is_reached_at, walked_at, walked_fork, is_asked, lacks, one_if, is_asked_of, is_non_holder, Settles, is_lawful, messages_left, settled, withdrawal_messages, withdrawn, ForkRecord, withdrawal_messages_of, withdrawn_at, has_dirty_pair, has_token_alone, settles, State, Thinking, Hungry, Seat, seat_state, Eating}
use Rattle.dine_forks.specs.declared.rules.Reach.TheVariants as reach
use Rattle.dine_arbiter.specs.Records.{Fork}
use Rattle.dine_arbiter.proofs.SlotEdges.{is_lawful_beside, first_state, second_state, states-are}
use Rattle.dine_arbiter.proofs.Settling.{each_where, settles_by, settles_so}

-- the messages of a record that a walk of a slot reaches, if each costs so many
abbrev pub walk_costs : Reach → (Bool → ℕ → Fork → ℕ) → ℕ → ForkRecord → ℕ
walk_costs reach costs slot r = if is_reached_at reach slot r then costs (slot == r.first) (other_end slot r) r.fork else 0

-- the messages until an edge is quiet, of which the task in the own state is the first end or the second
abbrev pub settling_cost : State → (ℕ → State) → Bool → ℕ → Fork → ℕ
settling_cost own states first other fork = if first then messages_left fork own (states other) else messages_left fork (states other) own

-- ---- one edge, whose one end is in another state now

-- what becomes of its fork: it is settled where the walk has to do with it
abbrev pub come : Reach → State → Bool → Fork → State → State → Fork
come r own s f x y = cond (is_reached r s f) (settled f (cond s own x) (cond s y own)) f

-- the messages of that
abbrev pub come_cost : Reach → State → Bool → Fork → State → State → ℕ
come_cost r own s f x y = cond (is_reached r s f) (messages_left f (cond s own x) (cond s y own)) 0

-- the edge is settled so where it was lawful while the end was in another state
abbrev pub Comes : Reach → State → State → Type 0
Comes r was own =
    (f : Fork) (x y : State) (s : Bool) → is_lawful f (cond s was x) (cond s y was) ≡ true
    → settles_so f (cond s own x) (cond s y own) (come r own s f x y) (come_cost r own s f x y) ≡ true

-- the end was thinking, and is hungry now
pub hunger_comes : Comes reach.Lacked Thinking Hungry
unfolding messages_left
hunger_comes =
    each_where (λ f x y s. is_lawful f (cond s Thinking x) (cond s y Thinking))
    (λ f x y s. settles_so f (cond s Hungry x) (cond s y Hungry) (come reach.Lacked Hungry s f x y) (come_cost reach.Lacked Hungry s f x y)) refl

-- it was eating, and thinks now
pub finish_comes : Comes reach.Asked Eating Thinking
unfolding messages_left
finish_comes =
    each_where (λ f x y s. is_lawful f (cond s Eating x) (cond s y Eating))
    (λ f x y s. settles_so f (cond s Thinking x) (cond s y Thinking) (come reach.Asked Thinking s f x y) (come_cost reach.Asked Thinking s f x y)) refl

-- the forks of a slot come to what a walk makes of them, at so many messages
walked-come : (r : Reach) (own : State) (seats : List (Option Seat)) (slot : ℕ) (x : ForkRecord) → let s = eqb slot x.first in let first = seat_state seats x.first in let second = seat_state seats x.second in
    (walked_fork r (settles own (seat_state seats)) slot x ≡ come r own s x.fork first second) × (walk_costs r (settling_cost own (seat_state seats)) slot x ≡ come_cost r own s x.fork first second)
walked-come r own seats slot x = elim (cases_Bool (eqb slot x.first)) [ inl e ↦ rw e (refl, refl) | inr e ↦ rw e (refl, refl) ]

-- a record of the slot whose edge was lawful settles at what the walk makes of it, at what that costs
pub walk_settles : (r : Reach) (was own : State) → Comes r was own → (seats : List (Option Seat)) (slot : ℕ) → seat_state seats slot ≡ own → (x : ForkRecord) → is_end slot x ≡ true → is_lawful_beside was seats slot x ≡ true
    → Settles x.fork (seat_state seats x.first) (seat_state seats x.second) (walked_fork r (settles own (seat_state seats)) slot x) (walk_costs r (settling_cost own (seat_state seats)) slot x)
walk_settles r was own comes seats slot here x end lawful =
    let first = seat_state seats x.first in let second = seat_state seats x.second in let s = eqb slot x.first in
    let f = come r own s x.fork first second in let n = come_cost r own s x.fork first second in
    let so = settles_by x.fork f (first_state own seats slot x) (second_state own seats slot x) n (comes x.fork first second s lawful) in
    let states = states-are own seats slot x here end in let is = walked-come r own seats slot x in
    rw (is.0, is.1) (subst (λ a. Settles x.fork a second f n) states.0 (subst (λ b. Settles x.fork (first_state own seats slot x) b f n) states.1 so))

-- ---- what a walk tells by its counts

-- who has grown hungry sends a token for each fork that it lacked, gets the fork where it lacks it no more, and the token where it is
-- asked for it then
hunger_tells : (f : Fork) (x y : State) (s : Bool) → is_lawful f (cond s Thinking x) (cond s y Thinking) ≡ true
    → (2 * one_if (lacks s f) + one_if (is_asked s (come reach.Lacked Hungry s f x y)) == come_cost reach.Lacked Hungry s f x y + one_if (lacks s (come reach.Lacked Hungry s f x y)) + one_if (is_asked s f)) ≡ true
unfolding messages_left
hunger_tells =
    each_where (λ f x y s. is_lawful f (cond s Thinking x) (cond s y Thinking))
    (λ f x y s. 2 * one_if (lacks s f) + one_if (is_asked s (come reach.Lacked Hungry s f x y)) == come_cost reach.Lacked Hungry s f x y + one_if (lacks s (come reach.Lacked Hungry s f x y)) + one_if (is_asked s f)) refl

-- who has eaten sends each fork that it was asked for
finish_tells : (f : Fork) (x y : State) (s : Bool) → is_lawful f (cond s Eating x) (cond s y Eating) ≡ true → (come_cost reach.Asked Thinking s f x y == one_if (is_asked s f)) ≡ true
unfolding messages_left
finish_tells =
    each_where (λ f x y s. is_lawful f (cond s Eating x) (cond s y Eating))
    (λ f x y s. come_cost reach.Asked Thinking s f x y == one_if (is_asked s f)) refl

-- who withdraws gets the token of each fork that it lacked, and sends the forks that it lacks more, each with its token where it hadn't it
withdrawal_tells : (f : Fork) (x y : State) (s : Bool) → is_lawful f (cond s Hungry x) (cond s y Hungry) ≡ true
    → (2 * one_if (lacks s (withdrawn s f)) + one_if (is_asked s (withdrawn s f)) == withdrawal_messages s f + one_if (lacks s f) + one_if (is_asked s f)) ≡ true
withdrawal_tells =
    each_where (λ f x y s. is_lawful f (cond s Hungry x) (cond s y Hungry))
    (λ f x y s. 2 * one_if (lacks s (withdrawn s f)) + one_if (is_asked s (withdrawn s f)) == withdrawal_messages s f + one_if (lacks s f) + one_if (is_asked s f)) refl

-- ---- what a walk meets

-- the fork of an edge that was lawful while the end was in another state is such as the walk meets
abbrev pub Meets : Reach → State → (Bool → Fork → Bool) → Type 0
Meets r was meets = (f : Fork) (x y : State) (s : Bool) → is_lawful f (cond s was x) (cond s y was) ≡ true → (meets s f || not (is_reached r s f)) ≡ true

-- so it is of one who was thinking, and is hungry now
pub hunger_meets : Meets reach.Lacked Thinking has_token_alone
hunger_meets = each_where (λ f x y s. is_lawful f (cond s Thinking x) (cond s y Thinking)) (λ f x y s. has_token_alone s f || not (is_reached reach.Lacked s f)) refl

-- and of one who was eating
pub finish_meets : Meets reach.Asked Eating has_dirty_pair
finish_meets = each_where (λ f x y s. is_lawful f (cond s Eating x) (cond s y Eating)) (λ f x y s. has_dirty_pair s f || not (is_reached reach.Asked s f)) refl

-- so are all of a slot
pub all_met : (r : Reach) (was : State) (meets : Bool → Fork → Bool) → Meets r was meets → (seats : List (Option Seat)) (slot : ℕ) (rs : List ForkRecord) → list_all (is_lawful_beside was seats slot) rs ≡ true
    → list_all (is_met_at r meets slot) rs ≡ true
all_met r was meets met seats slot [] h = refl
all_met r was meets met seats slot (x ∷ xs) h =
    let lawful = and_parts (is_lawful_beside was seats slot x) (list_all (is_lawful_beside was seats slot) xs) h in
    let here = met x.fork (seat_state seats x.first) (seat_state seats x.second) (eqb slot x.first) lawful.0 in
    rw (here, all_met r was meets met seats slot xs lawful.1) refl

-- one who withdraws meets all
pub withdrawal_meets : (slot : ℕ) (rs : List ForkRecord) → list_all (is_met_at reach.All (λ first fork. true) slot) rs ≡ true
withdrawal_meets slot rs = met-anyhow reach.All (λ first fork. true) slot (λ first fork. refl) rs

-- ---- what the counts of a slot tell of the messages

-- a record of a slot lacks its fork there, or is asked for it, as the fork tells of that end
at-slot : (slot : ℕ) (r : ForkRecord) → is_end slot r ≡ true → r.first ≢ r.second → (is_non_holder slot r ≡ lacks (eqb slot r.first) r.fork) × (is_asked_of slot r ≡ is_asked (eqb slot r.first) r.fork)
at-slot slot r end differ = (grind (arith, nat_tests), grind (arith, nat_tests))

-- and one of other slots is counted nowhere
off-slot : (slot : ℕ) (r : ForkRecord) → is_end slot r ≡ false → (is_non_holder slot r ≡ false) × (is_asked_of slot r ≡ false)
off-slot slot r off = (grind (arith, nat_tests), grind (arith, nat_tests))

-- one more passes where the first does
filter-one : (p : ForkRecord → Bool) (x : ForkRecord) (xs : List ForkRecord) → length (filter p (x ∷ xs)) ≡ one_if (p x) + length (filter p xs)
filter-one p x xs = elim (cases_Bool (p x)) [ inl e ↦ rw e (omega arith) | inr e ↦ rw e (omega arith) ]

-- the messages of the records of a slot, with one more that is the slot's or isn't
pub sum-one : (cost : ForkRecord → ℕ) (slot : ℕ) (x : ForkRecord) (xs : List ForkRecord) (b : Bool) → is_end slot x ≡ b → sum_by cost (slot_list slot (x ∷ xs)) ≡ (if b then cost x else 0) + sum_by cost (slot_list slot xs)
sum-one cost slot x xs true e = rw e (sum_by-cons cost x (slot_list slot xs))
sum-one cost slot x xs false e = rw e (sym (plus-zero (sum_by cost (slot_list slot xs))))
  where
    -- nothing is added
    plus-zero : (n : ℕ) → 0 + n ≡ n
    plus-zero n = omega arith

-- what holds of one record and of the others holds of all, as twice a number and another come to three
add-up : {L A S M B : ℕ} (l a s m b l' a' s' m' b' : ℕ) → L ≡ l + l' → A ≡ a + a' → S ≡ s + s' → M ≡ m + m' → B ≡ b + b' → 2 * l + a ≡ s + m + b → 2 * l' + a' ≡ s' + m' + b' → 2 * L + A ≡ S + M + B
add-up l a s m b l' a' s' m' b' L A S M B here rest = omega (arith, L, A, S, M, B, here, rest)

-- what a test finds among changed records it finds by the change
count-changed : (p : ForkRecord → Bool) (change : ForkRecord → ForkRecord) (rs : List ForkRecord) → length (filter p (map change rs)) ≡ length (filter (λ r. p (change r)) rs)
count-changed p change [] = refl
count-changed p change (x ∷ xs) = elim (cases_Bool (p (change x))) [ inl e ↦ rw e (ap suc (count-changed p change xs)) | inr e ↦ rw e (count-changed p change xs) ]

-- what holds of each record of a slot, and of others at no cost, holds of all: those who pass one test twice and those who pass another
-- come to three
reckoned : (slot : ℕ) (l a m b lawful : ForkRecord → Bool) (cost : ForkRecord → ℕ)
    → ((x : ForkRecord) → is_end slot x ≡ true → x.first ≢ x.second → lawful x ≡ true → 2 * one_if (l x) + one_if (a x) ≡ cost x + one_if (m x) + one_if (b x))
    → ((x : ForkRecord) → is_end slot x ≡ false → 2 * one_if (l x) + one_if (a x) ≡ 0 + one_if (m x) + one_if (b x))
    → (rs : List ForkRecord) → AllByRecursion (λ (r : ForkRecord). r.first ≢ r.second) rs → list_all lawful (slot_list slot rs) ≡ true
    → 2 * length (filter l rs) + length (filter a rs) ≡ sum_by cost (slot_list slot rs) + length (filter m rs) + length (filter b rs)
reckoned slot l a m b lawful cost on off [] differ h = refl
reckoned slot l a m b lawful cost on off (x ∷ xs) differ h = elim (cases_Bool (is_end slot x)) [
  | inl e ↦
      let both = and_parts (lawful x) (list_all lawful (slot_list slot xs)) (rw e at h) in
      add-up _ _ _ _ _ _ _ _ _ _ (filter-one l x xs) (filter-one a x xs) (sum-one cost slot x xs true e) (filter-one m x xs) (filter-one b x xs) (on x e differ.0 both.0)
      (reckoned slot l a m b lawful cost on off xs differ.1 both.1)
  | inr e ↦
      add-up _ _ _ _ _ _ _ _ _ _ (filter-one l x xs) (filter-one a x xs) (sum-one cost slot x xs false e) (filter-one m x xs) (filter-one b x xs) (off x e)
      (reckoned slot l a m b lawful cost on off xs differ.1 (rw e at h))
]

module _ (seats : List (Option Seat)) (slot : ℕ) (rs : List ForkRecord) (differ : AllByRecursion (λ (r : ForkRecord). r.first ≢ r.second) rs) where
  -- the messages of one who has grown hungry, by its counts before and after
  pub hunger-reckoned : list_all (is_lawful_beside Thinking seats slot) (slot_list slot rs) ≡ true
      → let after = map (walked_at reach.Lacked (settles Hungry (seat_state seats)) slot) rs in
      2 * length (filter (is_non_holder slot) rs) + length (filter (is_asked_of slot) after)
      ≡ sum_by (walk_costs reach.Lacked (settling_cost Hungry (seat_state seats)) slot) (slot_list slot rs) + length (filter (is_non_holder slot) after) + length (filter (is_asked_of slot) rs)
  hunger-reckoned h =
      let change = walked_at reach.Lacked (settles Hungry (seat_state seats)) slot in
      rw (count-changed (is_asked_of slot) change rs, count-changed (is_non_holder slot) change rs)
      (reckoned slot (is_non_holder slot) (λ r. is_asked_of slot (change r)) (λ r. is_non_holder slot (change r)) (is_asked_of slot) (is_lawful_beside Thinking seats slot) _
      (λ x e apart lawful.
      let y : ForkRecord = record { id = x.id; first = x.first; second = x.second; fork = walked_fork reach.Lacked (settles Hungry (seat_state seats)) slot x } in
      let is = at-slot slot x e apart in let now = at-slot slot y e apart in let comes = walked-come reach.Lacked Hungry seats slot x in
      rw e (rw (is.0, is.1, now.0, now.1, comes.0, comes.1) (eqb-true _ _ (hunger_tells x.fork (seat_state seats x.first) (seat_state seats x.second) (eqb slot x.first) lawful))))
      (λ x e. let none = off-slot slot x e in rw (e, none.0, none.1) refl) rs differ h)

  -- the messages of one who has eaten: it sends each fork that it was asked for
  pub finish-reckoned : list_all (is_lawful_beside Eating seats slot) (slot_list slot rs) ≡ true
      → length (filter (is_asked_of slot) rs) ≡ sum_by (walk_costs reach.Asked (settling_cost Thinking (seat_state seats)) slot) (slot_list slot rs)
  finish-reckoned h =
      let asked = is_asked_of slot in
      let thrice = reckoned slot asked asked asked asked (is_lawful_beside Eating seats slot) (walk_costs reach.Asked (settling_cost Thinking (seat_state seats)) slot)
      (λ x e apart lawful.
      let is = at-slot slot x e apart in let comes = walked-come reach.Asked Thinking seats slot x in
      let told = eqb-true _ _ (finish_tells x.fork (seat_state seats x.first) (seat_state seats x.second) (eqb slot x.first) lawful) in
      rw (is.1, comes.1, told) (omega arith))
      (λ x e. let none = off-slot slot x e in rw none.1 refl) rs differ h in
      omega arith

  -- the messages of one who has withdrawn, by its counts before and after
  pub withdrawal-reckoned : list_all (is_lawful_beside Hungry seats slot) (slot_list slot rs) ≡ true
      → let after = map (withdrawn_at slot) rs in
      2 * length (filter (is_non_holder slot) after) + length (filter (is_asked_of slot) after)
      ≡ sum_by (withdrawal_messages_of slot) (slot_list slot rs) + length (filter (is_non_holder slot) rs) + length (filter (is_asked_of slot) rs)
  withdrawal-reckoned h =
      rw (count-changed (is_asked_of slot) (withdrawn_at slot) rs, count-changed (is_non_holder slot) (withdrawn_at slot) rs)
      (reckoned slot (λ r. is_non_holder slot (withdrawn_at slot r)) (λ r. is_asked_of slot (withdrawn_at slot r)) (is_non_holder slot) (is_asked_of slot) (is_lawful_beside Hungry seats slot) _
      (λ x e apart lawful.
      let y : ForkRecord = record { id = x.id; first = x.first; second = x.second; fork = withdrawn (eqb slot x.first) x.fork } in
      let is = at-slot slot x e apart in let now = at-slot slot y e apart in
      rw e (rw (is.0, is.1, now.0, now.1) (eqb-true _ _ (withdrawal_tells x.fork (seat_state seats x.first) (seat_state seats x.second) (eqb slot x.first) lawful))))
      (λ x e. let none = off-slot slot x e in rw (e, none.0, none.1) refl) rs differ h)
