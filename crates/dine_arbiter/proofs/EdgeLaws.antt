-- What an edge comes to when a state of its first end changes, found by trying all edges, and so all edges of a task that
-- grows hungry or finishes. What the second end does is the same on the edge turned round.
-- An edge agrees by three values: the states of its ends, and whether the first stands before the second.
use Rattle.dine_arbiter.proofs.Words.{◌≡◌, ℕ, Bool, true, false, not, ◌&&◌, ◌||◌, cond, eqb, List, Option, Some, None, refl, ap, ◌∙◌, ◌+◌, [], ◌∷◌, is_some, IsTrue, inl, inr, sym, subst, arith, and_parts, eqb-true, cases_Bool, MatchBool-at_true, MatchBool-at_false, same_state, state_in, stands_before, same_task, is_in, has_end, neighbours_in, sooner, keeps_waiting, hunger_cost, conflict_cost, withdrawal_cost, Fork, Settles, SettlesAt, same_bool, agrees_at, agrees, messages_left, settled, withdrawn, withdrawal_messages, SettlesEnd, SettlesAround, new_fork, AllZip, sum_by, count_by, sum_by-cons, with_state, without, moved_last, EndsDiffer, last-stands_before, same_task-refl, same_task-sym, same_task-true, stands_before-append, stands_before-other_way, stands_before-with_state, stands_before-without, state_in-append_other, state_in-append_same, state_in-with_state_other, state_in-with_state_same, state_in-without_other, state_in-without_same}
use Rattle.dine_arbiter.specs.Edge.{Task, State, Thinking, Hungry, Eating, Diner}
use Rattle.dine_arbiter.proofs.Settling.{each_edge, each_where, same_bool-true, same_fork, same_fork-true, settled-is, settles_so, settles_by}

-- the first end's meal is sooner, by the states and the order
abbrev pub sooner_at : State → State → Bool → Bool
sooner_at x y before = not (same_state Eating x) && (same_state Eating y || before)

-- the test of an edge, by those three values
abbrev pub agrees_by : State → State → Bool → Fork → Bool
agrees_by x y before fork = agrees_at (Some x) (Some y) (sooner_at x y before) fork

-- it is the test of the edge between two tasks of which these are true
pub agrees-by : (order : List Diner) (a b : Task) (fork : Fork) (x y : State) (before : Bool)
    → state_in order a ≡ Some x → state_in order b ≡ Some y → stands_before order a b ≡ before → agrees order (a, b) fork ≡ agrees_by x y before fork
agrees-by order a b fork x y before ha hb hp = rw (ha, hb, hp) refl

-- ---- an edge turned round

-- the fork as it is seen from the other end
abbrev pub turned : Fork → Fork
turned f = record { at_first = not f.at_first; dirty = f.dirty; token_first = not f.token_first }

-- turned twice it is as before
pub turned-twice : (f : Fork) → turned (turned f) ≡ f
turned-twice f = same_fork-true (turned (turned f)) f (each_edge (λ f _ _ _. same_fork (turned (turned f)) f) refl f Thinking Thinking true)

-- an edge that agrees does so seen from the other end
pub turned-agrees : (f : Fork) (x y : State) (before : Bool) → agrees_by x y before f ≡ true → agrees_by y x (not before) (turned f) ≡ true
turned-agrees = each_where (λ f x y s. agrees_by x y s f) (λ f x y s. agrees_by y x (not s) (turned f)) refl

-- and settles as seen from there
pub turned-settles_at : (o p : Option State) (f g : Fork) (n : ℕ) → SettlesAt o p f g n → SettlesAt p o (turned f) (turned g) n
unfolding messages_left
turned-settles_at (Some x) (Some y) f g n h =
    let (fork, count) = settled-is n f g x y h.reached h.quiet in
    rw (fork, count) (settles_by (turned f) (turned (settled f x y)) y x (messages_left f x y)
    (each_edge (λ f x y _. settles_so (turned f) y x (turned (settled f x y)) (messages_left f x y)) refl f x y true))
turned-settles_at o p f g n h = absurd h

-- ---- the first end grows hungry, finishes, withdraws or begins

-- what is computed of the fork that an edge comes to is true of the fork that it settles at
comes_to : (p : Fork → Bool) (f g : Fork) (x y : State) (n cost : ℕ) → Settles f x y g n → (p (settled f x y) && eqb (messages_left f x y) cost) ≡ true → (p g ≡ true) × (n ≡ cost)
comes_to p f g x y n cost k h =
    let (fork, count) = settled-is n f g x y k.reached k.quiet in
    let both = and_parts (p (settled f x y)) (eqb (messages_left f x y) cost) h in
    (ap p fork ∙ both.0, count ∙ eqb-true _ _ both.1)

-- an edge whose first end grows hungry goes on to agree, at this cost
pub agrees-hungry : (y : State) (before : Bool) (f g : Fork) (n : ℕ) → agrees_by Thinking y before f ≡ true → Settles f Hungry y g n
    → (agrees_by Hungry y before g ≡ true) × (n ≡ hunger_cost (sooner_at Thinking y before) (Some y))
unfolding messages_left
agrees-hungry y before f g n h k =
    comes_to (agrees_by Hungry y before) f g Hungry y n _ k (each_where (λ f _ y s. agrees_by Thinking y s f)
    (λ f _ y s. agrees_by Hungry y s (settled f Hungry y) && eqb (messages_left f Hungry y) (hunger_cost (sooner_at Thinking y s) (Some y))) refl f y y before h)

-- so where it finishes: it stands last from then on
pub agrees-finish : (y : State) (before : Bool) (f g : Fork) (n : ℕ) → agrees_by Eating y before f ≡ true → Settles f Thinking y g n
    → (agrees_by Thinking y false g ≡ true) × (n ≡ cond (same_state Hungry y) 1 0)
unfolding messages_left
agrees-finish y before f g n h k =
    comes_to (agrees_by Thinking y false) f g Thinking y n _ k (each_where (λ f _ y s. agrees_by Eating y s f)
    (λ f _ y s. agrees_by Thinking y false (settled f Thinking y) && eqb (messages_left f Thinking y) (cond (same_state Hungry y) 1 0)) refl f y y before h)

-- so where it withdraws
pub agrees-withdraw : (y : State) (before : Bool) (f : Fork) → agrees_by Hungry y before f ≡ true
    → (agrees_by Thinking y before (withdrawn true f) ≡ true) × (withdrawal_messages true f ≡ withdrawal_cost (sooner_at Hungry y before) (Some y))
agrees-withdraw y before f h =
    let both = and_parts (agrees_by Thinking y before (withdrawn true f)) _ (each_where (λ f _ y s. agrees_by Hungry y s f)
    (λ f _ y s. agrees_by Thinking y s (withdrawn true f) && eqb (withdrawal_messages true f) (withdrawal_cost (sooner_at Hungry y s) (Some y))) refl f y y before h) in
    (both.0, eqb-true _ _ both.1)

-- what the second end withdraws is what the first does, seen from there
pub withdrawn-turned : (f : Fork) → (withdrawn true (turned f) ≡ turned (withdrawn false f)) × (withdrawal_messages true (turned f) ≡ withdrawal_messages false f)
withdrawn-turned f =
    let both = and_parts (same_fork (withdrawn true (turned f)) (turned (withdrawn false f))) _ (each_edge
    (λ f _ _ _. same_fork (withdrawn true (turned f)) (turned (withdrawn false f)) && eqb (withdrawal_messages true (turned f)) (withdrawal_messages false f)) refl f Thinking Thinking true) in
    (same_fork-true _ _ both.0, eqb-true _ _ both.1)

-- ---- a new conflict

-- a new edge agrees, at this cost, between two who don't both eat
pub agrees-new : (x y : State) (before : Bool) (g : Fork) (n : ℕ) → (same_state Eating x && same_state Eating y) ≡ false → Settles (new_fork (sooner_at x y before)) x y g n
    → (agrees_by x y before g ≡ true) × (n ≡ cond (sooner_at x y before) (conflict_cost (Some x) (Some y)) (conflict_cost (Some y) (Some x)))
unfolding messages_left
agrees-new x y before g n h k =
    let new : State → State → Bool → Fork = λ x y s. new_fork (sooner_at x y s) in
    comes_to (agrees_by x y before) (new x y before) g x y n _ k (each_where (λ _ x y _. not (same_state Eating x && same_state Eating y))
    (λ _ x y s. agrees_by x y s (settled (new x y s) x y) && eqb (messages_left (new x y s) x y) (cond (sooner_at x y s) (conflict_cost (Some x) (Some y)) (conflict_cost (Some y) (Some x))))
    refl g x y before (rw h refl))

-- ---- one edge of an order

-- the ends of an edge that agrees are present
pub ends_present : (order : List Diner) (a b : Task) (f : Fork) → agrees order (a, b) f ≡ true → (x y : State) × (state_in order a ≡ Some x) × (state_in order b ≡ Some y)
ends_present order a b f h = go (state_in order a) (state_in order b) h
  where
    go : (o p : Option State) → agrees_at o p (sooner order a b) f ≡ true → (x y : State) × (o ≡ Some x) × (p ≡ Some y)
    go (Some x) (Some y) h = (x, y, refl, refl)
    go o p h = absurd (let k : false ≡ true = h in cc)

-- an edge agrees as before where its ends have the states and the order of before
pub agrees-same : (order order' : List Diner) (c : Task × Task) (f : Fork) → state_in order' c.0 ≡ state_in order c.0 → state_in order' c.1 ≡ state_in order c.1
    → stands_before order' c.0 c.1 ≡ stands_before order c.0 c.1 → agrees order' c f ≡ agrees order c f
agrees-same order order' c f ha hb hp = rw (ha, hb, hp) refl

-- an edge that agrees does so turned round
pub agrees-turned : (order : List Diner) (a b : Task) (f : Fork) → same_task a b ≡ false → agrees order (a, b) f ≡ true → agrees order (b, a) (turned f) ≡ true
agrees-turned order a b f ne h =
    let (x, y, ha, hb) = ends_present order a b f h in
    let before = stands_before order a b in
    agrees-by order b a (turned f) y x (not before) hb ha (stands_before-other_way order a b ne (ap is_some ha) (ap is_some hb))
    ∙ turned-agrees f x y before (sym (agrees-by order a b f x y before ha hb refl) ∙ h)

-- and one that agrees turned round does so as it is
pub agrees-turned_back : (order : List Diner) (a b : Task) (f : Fork) → same_task b a ≡ false → agrees order (b, a) (turned f) ≡ true → agrees order (a, b) f ≡ true
agrees-turned_back order a b f ne h = subst (λ g. agrees order (a, b) g ≡ true) (turned-twice f) (agrees-turned order b a (turned f) ne h)

-- what is true of the edges of u by the end that u is, and of those of others, is true of each
pub by_ends : (u : Task) (P : Task × Task → Type 0) → ((b : Task) → same_task u b ≡ false → P (u, b)) → ((a : Task) → same_task u a ≡ false → same_task a u ≡ false → P (a, u))
    → ((c : Task × Task) → same_task u c.0 ≡ false → same_task u c.1 ≡ false → P c) → (c : Task × Task) → same_task c.0 c.1 ≡ false → P c
by_ends u P first second neither (a, b) ne = elim (cases_Bool (same_task u a)) [
  | inl e ↦
      let is_a = same_task-true u a e in
      subst (λ w. P (w, b)) is_a (first b (subst (λ w. same_task w b ≡ false) (sym is_a) ne))
  | inr not_a ↦ elim (cases_Bool (same_task u b)) [
    | inl e ↦ subst (λ w. P (a, w)) (same_task-true u b e) (second a not_a (same_task-sym a u ∙ not_a))
    | inr not_b ↦ neither (a, b) not_a not_b
  ]
]

-- an edge by the three values, as u sees it that is its first end, in a state
pub seen_from : (order : List Diner) (u v : Task) (x : State) (f : Fork) → state_in order u ≡ Some x → agrees order (u, v) f ≡ true
    → (y : State) × (state_in order v ≡ Some y) × (agrees_by x y (stands_before order u v) f ≡ true)
seen_from order u v x f hu h =
    let (_, y, _, hv) = ends_present order u v f h in
    (y, hv, sym (agrees-by order u v f x y (stands_before order u v) hu hv refl) ∙ h)

-- u being put into another state, its edge agrees by that
pub agrees-put : (order : List Diner) (u v : Task) (x y s : State) (f : Fork) → state_in order u ≡ Some x → state_in order v ≡ Some y → same_task u v ≡ false
    → agrees_by s y (stands_before order u v) f ≡ true → agrees (with_state s u order) (u, v) f ≡ true
agrees-put order u v x y s f hu hv ne h =
    agrees-by (with_state s u order) u v f s y (stands_before order u v) (state_in-with_state_same s u order (ap is_some hu)) (state_in-with_state_other s u v order ne ∙ hv)
    (stands_before-with_state s u u v order) ∙ h

-- and the edges of others stay
pub agrees-put_other : (order : List Diner) (u : Task) (s : State) (c : Task × Task) (f : Fork) → same_task u c.0 ≡ false → same_task u c.1 ≡ false → agrees (with_state s u order) c f ≡ agrees order c f
agrees-put_other order u s c f not_a not_b =
    agrees-same order (with_state s u order) c f (state_in-with_state_other s u c.0 order not_a) (state_in-with_state_other s u c.1 order not_b) (stands_before-with_state s u c.0 c.1 order)

-- ---- from one edge to all

-- what a conflict adds to a sum over u's neighbours
abbrev pub at_other_end : Task → (Task → ℕ) → Task × Task → ℕ
at_other_end u cost c = cond (same_task u c.0) (cost c.1) (cond (same_task u c.1) (cost c.0) 0)

-- so the sum is made
pub sum_by-neighbours_in : (u : Task) (cost : Task → ℕ) (c : Task × Task) (cs : List (Task × Task)) → sum_by cost (neighbours_in (c ∷ cs) u) ≡ at_other_end u cost c + sum_by cost (neighbours_in cs u)
sum_by-neighbours_in u cost c cs = grind (arith, sum_by-cons cost c.1 (neighbours_in cs u), sum_by-cons cost c.0 (neighbours_in cs u))

-- where an edge of u goes on to agree at its cost, and those of others do, so do all
module _ (u : Task) (order order' : List Diner) (cost : Task → ℕ)
    (own : (v : Task) (f g : Fork) (m : ℕ) → same_task u v ≡ false → agrees order (u, v) f ≡ true → SettlesAt (state_in order' u) (state_in order' v) f g m → (agrees order' (u, v) g ≡ true) × (m ≡ cost v))
    (others : (c : Task × Task) (f : Fork) → same_task u c.0 ≡ false → same_task u c.1 ≡ false → agrees order' c f ≡ agrees order c f) where
  -- an edge goes on to agree, and this is what it costs
  abbrev GoesOn : Task × Task → Type 0
  GoesOn c = (f g : Fork) (m : ℕ) → agrees order c f ≡ true → SettlesEnd u order' c f g m → (agrees order' c g ≡ true) × (m ≡ at_other_end u cost c)

  -- each edge does so: one of u as u sees it, and the others stay
  goes_on : (c : Task × Task) → same_task c.0 c.1 ≡ false → GoesOn c
  goes_on = by_ends u GoesOn
      (λ b ne f g m h k.
      let r = own b f g m ne h (MatchBool-at_true {b = has_end u (u, b)} _ _ (rw (same_task-refl u) refl) k) in
      (r.0, rw (same_task-refl u) r.1))
      (λ a not_a ne f g m h k.
      let settles = turned-settles_at _ _ f g m (MatchBool-at_true {b = has_end u (a, u)} _ _ (rw (not_a, same_task-refl u) refl) k) in
      let r = own a (turned f) (turned g) m not_a (agrees-turned order a u f ne h) settles in
      (agrees-turned_back order' a u g not_a r.0, rw (not_a, same_task-refl u) r.1))
      (λ c not_a not_b f g m h k.
      let stays : (g ≡ f) × (m ≡ 0) = MatchBool-at_false {b = has_end u c} _ _ (rw (not_a, not_b) refl) k in
      (ap (agrees order' c) stays.0 ∙ others c f not_a not_b ∙ h, rw (not_a, not_b) stays.1))

  -- so all edges do, at what the neighbours cost together
  pub all_around : (cs : List (Task × Task)) (fs gs : List Fork) (n : ℕ) → EndsDiffer cs → AllZip (λ c f. IsTrue (agrees order c f)) cs fs → SettlesAround u order' cs fs gs n
      → AllZip (λ c f. IsTrue (agrees order' c f)) cs gs × (n ≡ sum_by cost (neighbours_in cs u))
  all_around [] [] [] n d h k = (tt, k)
  all_around [] [] (g ∷ gs) n d h k = absurd k
  all_around (c ∷ cs) (f ∷ fs) [] n d h k = absurd k
  all_around (c ∷ cs) (f ∷ fs) (g ∷ gs) n d h (m, k, sum, here, rest) =
      let one = goes_on c d.0 f g m h.0 here in
      let left = all_around cs fs gs k d.1 h.1 rest in
      ((one.0, left.0), sum ∙ ap (λ a. a + k) one.1 ∙ ap (λ b. at_other_end u cost c + b) left.1 ∙ sym (sum_by-neighbours_in u cost c cs))
  all_around cs fs gs n d h k = absurd h

-- when u grows hungry, all edges go on to agree, and this is what it costs
pub forks-hungry : (order : List Diner) (u : Task) → state_in order u ≡ Some Thinking → (cs : List (Task × Task)) (fs gs : List Fork) (n : ℕ) → EndsDiffer cs
    → AllZip (λ c f. IsTrue (agrees order c f)) cs fs → SettlesAround u (with_state Hungry u order) cs fs gs n
    → AllZip (λ c f. IsTrue (agrees (with_state Hungry u order) c f)) cs gs × (n ≡ sum_by (λ v. hunger_cost (sooner order u v) (state_in order v)) (neighbours_in cs u))
forks-hungry order u hu =
    all_around u order (with_state Hungry u order) (λ v. hunger_cost (sooner order u v) (state_in order v))
    (λ v f g m ne h k.
    let (y, hv, here) = seen_from order u v Thinking f hu h in
    let now = state_in-with_state_same Hungry u order (ap is_some hu) in
    let r = agrees-hungry y (stands_before order u v) f g m here (rw (now, state_in-with_state_other Hungry u v order ne, hv) at k) in
    (agrees-put order u v Thinking y Hungry g hu hv ne r.0, rw (hu, hv) r.1))
    (agrees-put_other order u Hungry)

-- ---- a task finishes

-- when u finishes, all edges go on to agree, and this is what it costs
pub forks-finish : (order : List Diner) (u : Task) → state_in order u ≡ Some Eating → (cs : List (Task × Task)) (fs gs : List Fork) (n : ℕ) → EndsDiffer cs
    → AllZip (λ c f. IsTrue (agrees order c f)) cs fs → SettlesAround u (moved_last u order) cs fs gs n
    → AllZip (λ c f. IsTrue (agrees (moved_last u order) c f)) cs gs × (n ≡ count_by (λ v. is_in Hungry order v) (neighbours_in cs u))
forks-finish order u hu =
    all_around u order after (λ v. cond (is_in Hungry order v) 1 0)
    (λ v f g m ne h k.
    let (y, hv, here) = seen_from order u v Eating f hu h in
    let last = last-stands_before (without u order) (record { task = u; state = Thinking }) v gone (ap is_some (state_in-without_other u v order ne ∙ hv)) in
    let r = agrees-finish y (stands_before order u v) f g m here (rw (same, other v ne, hv) at k) in
    (agrees-by after u v g Thinking y false same (other v ne ∙ hv) last ∙ r.0, rw hv r.1))
    (λ c f not_a not_b. agrees-same order after c f (other c.0 not_a) (other c.1 not_b)
    (stands_before-append (without u order) (record { task = u; state = Thinking }) c.0 c.1 not_a not_b ∙ stands_before-without u c.0 c.1 order not_a not_b))
  where
    after : List Diner
    after = moved_last u order

    gone : state_in (without u order) u ≡ None
    gone = state_in-without_same u order

    same : state_in (moved_last u order) u ≡ Some Thinking
    same = state_in-append_same (without u order) (record { task = u; state = Thinking }) gone

    other : (v : Task) → same_task u v ≡ false → state_in (moved_last u order) v ≡ state_in order v
    other v ne = state_in-append_other (without u order) (record { task = u; state = Thinking }) v ne ∙ state_in-without_other u v order ne

-- ---- who may begin

-- of the fork to a neighbour u has exactly the one of which it isn't kept waiting
pub holds_first : (order : List Diner) (u : Task) → state_in order u ≡ Some Hungry → (v : Task) (f : Fork) → same_task u v ≡ false → agrees order (u, v) f ≡ true → f.at_first ≡ not (keeps_waiting order u v)
holds_first order u hu v f ne h =
    let (y, hv, here) = seen_from order u v Hungry f hu h in
    let other_way = stands_before-other_way order u v ne (ap is_some hu) (ap is_some hv) in
    same_bool-true f.at_first _ (each_where (λ f _ y s. agrees_by Hungry y s f)
    (λ f _ y s. same_bool f.at_first (not (same_state Eating y || (same_state Hungry y && not s)))) refl f y y (stands_before order u v) here) ∙ rw (hv, other_way) refl

-- so where u is the second end
pub holds_second : (order : List Diner) (u : Task) → state_in order u ≡ Some Hungry → (v : Task) (f : Fork) → same_task v u ≡ false → agrees order (v, u) f ≡ true → not f.at_first ≡ not (keeps_waiting order u v)
holds_second order u hu v f ne h = holds_first order u hu v (turned f) (same_task-sym u v ∙ ne) (agrees-turned order v u f ne h)
