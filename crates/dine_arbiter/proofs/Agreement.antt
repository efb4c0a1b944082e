-- All edges go on to agree when a task joins or leaves, begins to eat or withdraws, and when a conflict is declared or ends. A
-- hungry task holds all its forks exactly where no neighbour keeps it waiting.
use Rattle.dine_arbiter.proofs.Words.{◌≡◌, ℕ, Bool, false, not, ◌&&◌, cond, List, [], ◌∷◌, ◌++◌, Some, None, IsTrue, inl, inr, refl, ◌∙◌, true, ◌||◌, ◌+◌, sym, ap, arith, ◌==◌, map, is_some, AllZip, filter, sum_by, list_any, list_all, cases_Bool, or_parts, and_parts, not-true, eqb-true, same_task, is_in, state_in, stands_before, sooner, has_end, neighbours_in, keeps_waiting, Table, is_ready, state_of, without, with_state, conflict_cost, withdrawal_cost, Fork, agrees, SettlesAt, holds_all, dirtied_around, withdrawn, withdrawal_messages, withdrawn_around, withdrawal_messages_around, forks_kept, new_fork, absent_differs, stands_before-append, stands_before-without, state_in-append_other, state_in-without_other, same_task-refl, one_in_slot, EndsDiffer, EndsPresent, IsSound, dirtied, slots_of}
use Rattle.dine_arbiter.specs.Edge.{Task, State, Eating, Diner, Hungry, holds, Thinking}
use Rattle.dine_arbiter.proofs.EdgeLaws.{sooner_at, agrees_by, agrees-by, agrees-new, turned, agrees-withdraw, withdrawn-turned, ends_present, agrees-same, agrees-put, agrees-put_other, agrees-turned, agrees-turned_back, by_ends, seen_from, at_other_end, sum_by-neighbours_in, holds_first, holds_second}
use Rattle.dine_arbiter.proofs.Settling.{each_where}
use Rattle.dine_forks.specs.declared.record.ForkRecord.{ForkRecord}
use Rattle.dine_forks.specs.Book as book
use Rattle.dine_arbiter.specs.Edge as edge

-- all edges go on to agree when one joins who was absent
pub forks-join : (order : List Diner) (d : Diner) → state_in order d.task ≡ None → (cs : List (Task × Task)) (fs : List Fork) → AllZip (λ c f. IsTrue (agrees order c f)) cs fs → AllZip (λ c f. IsTrue (agrees (order ++ d ∷ []) c f)) cs fs
forks-join order d absent (c ∷ cs) (f ∷ fs) h =
    let (x, y, ha, hb) = ends_present order c.0 c.1 f h.0 in
    let na = absent_differs order d.task c.0 x absent ha in
    let nb = absent_differs order d.task c.1 y absent hb in
    (agrees-same order (order ++ d ∷ []) c f (state_in-append_other order d c.0 na) (state_in-append_other order d c.1 nb) (stands_before-append order d c.0 c.1 na nb) ∙ h.0, forks-join order d absent cs fs h.1)
forks-join order d absent cs fs h = h

-- those that are left do when some conflicts end, if each of them does
pub forks-left : (order order' : List Diner) (p : Task × Task → Bool) → ((c : Task × Task) (f : Fork) → p c ≡ true → agrees order c f ≡ true → agrees order' c f ≡ true) → (cs : List (Task × Task)) (fs : List Fork)
    → AllZip (λ c f. IsTrue (agrees order c f)) cs fs → AllZip (λ c f. IsTrue (agrees order' c f)) (filter p cs) (forks_kept p cs fs)
forks-left order order' p each (c ∷ cs) (f ∷ fs) h = elim (cases_Bool (p c)) [
  | inl e ↦ rw e (each c f e h.0, forks-left order order' p each cs fs h.1)
  | inr e ↦ rw e (forks-left order order' p each cs fs h.1)
]
forks-left order order' p each [] [] h = tt
forks-left order order' p each cs fs h = absurd h

-- so they do when one leaves, whose conflicts end
pub forks-leave : (order : List Diner) (u : Task) (cs : List (Task × Task)) (fs : List Fork) → AllZip (λ c f. IsTrue (agrees order c f)) cs fs
    → AllZip (λ c f. IsTrue (agrees (without u order) c f)) (filter (λ c. not (has_end u c)) cs) (forks_kept (λ c. not (has_end u c)) cs fs)
forks-leave order u = forks-left order (without u order) (λ c. not (has_end u c)) (λ c f left h.
    let apart = or_parts (same_task u c.0) (same_task u c.1) (not-true (has_end u c) left) in
    agrees-same order (without u order) c f (state_in-without_other u c.0 order apart.0) (state_in-without_other u c.1 order apart.1) (stands_before-without u c.0 c.1 order apart.0 apart.1) ∙ h)

-- one pair more is related
AllZip-append : {A B : Type 0} (R : A → B → Type 0) (xs : List A) (ys : List B) (x : A) (y : B) → AllZip R xs ys → R x y → AllZip R (xs ++ x ∷ []) (ys ++ y ∷ [])
AllZip-append R (a ∷ as') (b ∷ bs) x y h k = (h.0, AllZip-append R as' bs x y h.1 k)
AllZip-append R [] [] x y h k = (k, tt)
AllZip-append R xs ys x y h k = absurd h

-- all do when a conflict is declared between two who don't both eat
pub forks-conflict : (order : List Diner) (a b : Task) (x y : State) → state_in order a ≡ Some x → state_in order b ≡ Some y → (is_in Eating order a && is_in Eating order b) ≡ false
    → (cs : List (Task × Task)) (fs : List Fork) (g : Fork) (n : ℕ) → AllZip (λ c f. IsTrue (agrees order c f)) cs fs → SettlesAt (state_in order a) (state_in order b) (new_fork (sooner order a b)) g n
    → AllZip (λ c f. IsTrue (agrees order c f)) (cs ++ (a, b) ∷ []) (fs ++ g ∷ []) × (n ≡ cond (sooner order a b) (conflict_cost (state_in order a) (state_in order b)) (conflict_cost (state_in order b) (state_in order a)))
forks-conflict order a b x y ha hb apart cs fs g n h k =
    let before = stands_before order a b in
    let settled : SettlesAt (Some x) (Some y) (new_fork (sooner_at x y before)) g n = rw (ha, hb) at k in
    let r = agrees-new x y before g n (rw (ha, hb) at apart) settled in
    (AllZip-append _ cs fs (a, b) g h (agrees-by order a b g x y before ha hb refl ∙ r.0), rw (ha, hb) r.1)

-- ---- a task begins to eat: its forks get dirty

module _ (order : List Diner) (u : Task) (hu : state_in order u ≡ Some Hungry) where
  -- the order, u eating
  abbrev eating : List Diner
  eating = with_state Eating u order

  -- the edge to a neighbour goes on to agree where u holds its fork
  begin-first : (v : Task) (f : Fork) → same_task u v ≡ false → agrees order (u, v) f ≡ true → f.at_first ≡ true → agrees eating (u, v) (dirtied f) ≡ true
  begin-first v f ne h held =
      let (y, hv, here) = seen_from order u v Hungry f hu h in
      agrees-put order u v Hungry y Eating (dirtied f) hu hv ne
      (each_where (λ f _ y s. agrees_by Hungry y s f && f.at_first) (λ f _ y s. agrees_by Eating y s (dirtied f)) refl f y y (stands_before order u v) (rw (here, held) refl))

  -- an edge goes on to agree where u holds its fork if it is an end
  begin-each : (c : Task × Task) → same_task c.0 c.1 ≡ false → (f : Fork) → agrees order c f ≡ true → (not (has_end u c) || holds u c f) ≡ true
      → agrees eating c (cond (has_end u c) (dirtied f) f) ≡ true
  begin-each = by_ends u (λ c. (f : Fork) → agrees order c f ≡ true → (not (has_end u c) || holds u c f) ≡ true → agrees eating c (cond (has_end u c) (dirtied f) f) ≡ true)
      (λ b ne f h held. rw (same_task-refl u) (begin-first b f ne h (rw (same_task-refl u) at held)))
      (λ a not_a ne f h held. rw (not_a, same_task-refl u)
      (agrees-turned_back eating a u (dirtied f) not_a (begin-first a (turned f) not_a (agrees-turned order a u f ne h) (rw (not_a, same_task-refl u) at held))))
      (λ c not_a not_b f h held. rw (not_a, not_b) (agrees-put_other order u Eating c f not_a not_b ∙ h))

  -- when u begins, all edges go on to agree
  pub forks-begin : (cs : List (Task × Task)) (fs : List Fork) → EndsDiffer cs → AllZip (λ c f. IsTrue (agrees order c f)) cs fs → holds_all u cs fs ≡ true
      → AllZip (λ c f. IsTrue (agrees eating c f)) cs (dirtied_around u cs fs)
  forks-begin (c ∷ cs) (f ∷ fs) d h held =
      let both = and_parts (not (has_end u c) || holds u c f) (holds_all u cs fs) held in
      (begin-each c d.0 f h.0 both.0, forks-begin cs fs d.1 h.1 both.1)
  forks-begin [] [] d h held = tt
  forks-begin cs fs d h held = absurd h

-- ---- a hungry task withdraws, and what that costs

module _ (order : List Diner) (u : Task) (hu : state_in order u ≡ Some Hungry) where
  -- the order, u thinking
  abbrev thinking : List Diner
  thinking = with_state Thinking u order

  -- what the withdrawal costs on the edge to a neighbour
  abbrev cost : Task → ℕ
  cost v = withdrawal_cost (sooner order u v) (state_in order v)

  -- the edge to a neighbour goes on to agree, at this cost
  withdraw-first : (v : Task) (f : Fork) → same_task u v ≡ false → agrees order (u, v) f ≡ true → (agrees thinking (u, v) (withdrawn true f) ≡ true) × (withdrawal_messages true f ≡ cost v)
  withdraw-first v f ne h =
      let (y, hv, here) = seen_from order u v Hungry f hu h in
      let r = agrees-withdraw y (stands_before order u v) f here in
      (agrees-put order u v Hungry y Thinking (withdrawn true f) hu hv ne r.0, rw (hu, hv) r.1)

  -- an edge goes on to agree, and this is what it costs
  abbrev Withdraws : Task × Task → Type 0
  Withdraws c = (f : Fork) → agrees order c f ≡ true
      → (agrees thinking c (cond (has_end u c) (withdrawn (same_task u c.0) f) f) ≡ true) × (cond (has_end u c) (withdrawal_messages (same_task u c.0) f) 0 ≡ at_other_end u cost c)

  -- each edge does so: one of u as u sees it, and the others stay
  withdraw-each : (c : Task × Task) → same_task c.0 c.1 ≡ false → Withdraws c
  withdraw-each = by_ends u Withdraws
      (λ b ne f h. let r = withdraw-first b f ne h in (rw (same_task-refl u) r.0, rw (same_task-refl u) r.1))
      (λ a not_a ne f h.
      let (agree, counted) = withdraw-first a (turned f) not_a (agrees-turned order a u f ne h) in
      let (fork, messages) = withdrawn-turned f in
      let back = agrees-turned_back thinking a u (withdrawn false f) not_a (ap (agrees thinking (u, a)) (sym fork) ∙ agree) in
      (rw (not_a, same_task-refl u) back, rw (not_a, same_task-refl u) (sym messages ∙ counted)))
      (λ c not_a not_b f h. (rw (not_a, not_b) (agrees-put_other order u Thinking c f not_a not_b ∙ h), rw (not_a, not_b) refl))

  -- when u withdraws, all edges go on to agree, and this is what it costs
  pub forks-withdraw : (cs : List (Task × Task)) (fs : List Fork) → EndsDiffer cs → AllZip (λ c f. IsTrue (agrees order c f)) cs fs
      → AllZip (λ c f. IsTrue (agrees thinking c f)) cs (withdrawn_around u cs fs) × (withdrawal_messages_around u cs fs ≡ sum_by cost (neighbours_in cs u))
  forks-withdraw [] [] d h = (tt, refl)
  forks-withdraw (c ∷ cs) (f ∷ fs) d h =
      let one = withdraw-each c d.0 f h.0 in
      let others = forks-withdraw cs fs d.1 h.1 in
      ((one.0, others.0), ap (λ n. n + withdrawal_messages_around u cs fs) one.1 ∙ ap (λ n. at_other_end u cost c + n) others.1 ∙ sym (sum_by-neighbours_in u cost c cs))
  forks-withdraw cs fs d h = absurd h

-- ---- who may begin

-- u is kept waiting at an edge
abbrev pub waits_at : List Diner → Task → Task × Task → Bool
waits_at order u c = cond (same_task u c.0) (keeps_waiting order u c.1) (cond (same_task u c.1) (keeps_waiting order u c.0) false)

-- u waits for a neighbour where it waits at an edge
list_any-neighbours_in : (order : List Diner) (u : Task) (c : Task × Task) (cs : List (Task × Task)) → list_any (keeps_waiting order u) (neighbours_in (c ∷ cs) u) ≡ (waits_at order u c || list_any (keeps_waiting order u) (neighbours_in cs u))
list_any-neighbours_in order u c cs = grind arith

module _ (order : List Diner) (u : Task) (hu : state_in order u ≡ Some Hungry) where
  -- u holds the fork of an edge exactly where it doesn't wait at it
  holds_where_not_waiting : (c : Task × Task) → same_task c.0 c.1 ≡ false → (f : Fork) → agrees order c f ≡ true → (not (has_end u c) || holds u c f) ≡ not (waits_at order u c)
  holds_where_not_waiting = by_ends u (λ c. (f : Fork) → agrees order c f ≡ true → (not (has_end u c) || holds u c f) ≡ not (waits_at order u c))
      (λ b ne f h. rw (same_task-refl u) (holds_first order u hu b f ne h))
      (λ a not_a ne f h. rw (not_a, same_task-refl u) (holds_second order u hu a f ne h))
      (λ c not_a not_b f h. rw (not_a, not_b) refl)

  -- so u holds all its forks exactly where nobody keeps it waiting
  pub holds_all-is : (cs : List (Task × Task)) (fs : List Fork) → EndsDiffer cs → AllZip (λ c f. IsTrue (agrees order c f)) cs fs → holds_all u cs fs ≡ not (list_any (keeps_waiting order u) (neighbours_in cs u))
  holds_all-is [] fs d h = refl
  holds_all-is (c ∷ cs) [] d h = absurd h
  holds_all-is (c ∷ cs) (f ∷ fs) d h =
      rw (holds_where_not_waiting c d.0 f h.0, holds_all-is cs fs d.1 h.1, list_any-neighbours_in order u c cs) (grind arith)

-- ---- whether a task is ready, by the forks of the records of its slot

module _ (t : Table) (sound : IsSound t) (u : Task) (here : is_some (state_of t u) ≡ true) where
  -- two tasks that are present are one where their slots are
  by_slot : (v : Task) → is_some (state_of t v) ≡ true → same_task u v ≡ (u.slot == v.slot)
  by_slot v there = elim (cases_Bool (u.slot == v.slot)) [
    | inl same ↦ ap (same_task u) (sym (one_in_slot t.order sound.each_slot_once u v here there (eqb-true u.slot v.slot same))) ∙ same_task-refl u ∙ sym same
    | inr apart ↦ ap (λ b. b && (u.born == v.born)) apart ∙ sym apart
  ]

  -- the slot holds the forks of its records exactly where u holds those of its conflicts
  holds-are : (cs : List (Task × Task)) (rs : List ForkRecord) → map book.ends_of rs ≡ map slots_of cs → EndsPresent t.order cs → list_all (book.holds u.slot) (book.slot_list u.slot rs) ≡ edge.holds_all u cs (map book.fork_of rs)
  holds-are [] [] e present = refl
  holds-are [] (r ∷ rs) e present = absurd cc
  holds-are (c ∷ cs) [] e present = absurd cc
  holds-are (c ∷ cs) (r ∷ rs) e present =
      let ends : book.ends_of r ≡ slots_of c = cc in
      let tail : map book.ends_of rs ≡ map slots_of cs = cc in
      let at_first : same_task u c.0 ≡ (u.slot == r.first) = by_slot c.0 present.0.0 ∙ ap (λ (p : ℕ × ℕ). u.slot == p.0) (sym ends) in
      let at_second : same_task u c.1 ≡ (u.slot == r.second) = by_slot c.1 present.0.1 ∙ ap (λ (p : ℕ × ℕ). u.slot == p.1) (sym ends) in
      rw (at_first, at_second, ← holds-are cs rs tail present.1) (elim (cases_Bool (book.is_end u.slot r)) [ inl e ↦ rw e refl | inr e ↦ rw e refl ])

  -- a hungry task is ready exactly where its slot holds the forks of all its records
  pub ready-holds : state_of t u ≡ Some Hungry → (rs : List ForkRecord) (forks : List Fork) → map book.ends_of rs ≡ map slots_of t.conflicts → map book.fork_of rs ≡ forks → edge.ForksAgree t forks → is_ready t u ≡ list_all (book.holds u.slot) (book.slot_list u.slot rs)
  ready-holds hungry rs forks ends are agree =
      rw hungry (sym (holds-are t.conflicts rs ends sound.ends_present ∙ ap (edge.holds_all u t.conflicts) are ∙ holds_all-is t.order u hungry t.conflicts forks sound.ends_differ agree))
