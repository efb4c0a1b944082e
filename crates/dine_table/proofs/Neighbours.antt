-- Conflicts: their ends are present and differ, each pair stands once, and the two ends never eat at the same time.
use Rattle.std.proofs.Common.{◌≡◌, Bool, true, false, not, ◌&&◌, ◌||◌, cond, ◌⊎◌, List, [], ◌∷◌, ◌++◌, Option, Some, None, is_some, inl, inr, refl, sym, ap, ◌∙◌, subst}
use Rattle.std.specs.List.{AllByRecursion, IsDistinct, list_any, filter, cons_option}
use Rattle.std.specs.Prelude.{IsSome}
use Rattle.std.proofs.lemmas.Bool.{cases_Bool, and_parts, and_left, and_right, and_from, not-true, or_parts, or_cases}
use Rattle.dine_words.specs.declared.task.Task.{Task}
use Rattle.dine_words.specs.declared.task.State.{State}
use Rattle.dine_words.specs.declared.task.State.TheVariants.{Thinking, Hungry, Eating}
use Rattle.dine_words.specs.declared.task.Diner.{Diner}
use Rattle.dine_table.specs.Table.{Table, state_of, are_in_conflict, same_task, same_state, is_found, is_in, state_in, stands_before, is_between, has_end, keeps_waiting, neighbours_in, other_end}
use Rattle.dine_table.specs.Calls.{with_state, without, moved_last}
use Rattle.dine_table.specs.Sound.{IsSound, EndsDiffer, EndsPresent, NoNeighboursEat, same_pair}
use Rattle.dine_table.proofs.Tasks.{same_task-refl, same_task-true, same_task-sym}
use Rattle.dine_table.proofs.Order.{diner_put_in-task, diner_put_in-state, state_in-with_state_other, state_in-with_state_same, state_in-without_other, state_in-without_same, state_in-append_same}
use Rattle.dine_table.proofs.Lists.{AllByRecursion-weaker, AllByRecursion-filter_weaker, AllByRecursion-none, IsDistinct-append}

-- where none of a list passes, that may have one more in front, none of the rest does
none_of_rest : (p : Task → Bool) (o : Option Task) (rest : List Task) → list_any p (cons_option o rest) ≡ false → list_any p rest ≡ false
none_of_rest p None rest k = k
none_of_rest p (Some w) rest k = (or_parts (p w) (list_any p rest) k).1

-- who is in conflict with v is a neighbour of v
pub neighbour_passes : (p : Task → Bool) (u v : Task) (cs : List (Task × Task)) → same_task u v ≡ false → list_any (is_between u v) cs ≡ true → list_any p (neighbours_in cs v) ≡ false → p u ≡ false
neighbour_passes p u v [] ne h k = absurd (let w : false ≡ true = h in cc)
neighbour_passes p u v (c ∷ cs) ne h k = elim (or_cases (is_between u v c) (list_any (is_between u v) cs) h) [
  | inl here ↦ elim (or_cases (same_task u c.0 && same_task v c.1) (same_task u c.1 && same_task v c.0) here) [
    | inl way ↦
        let parts = and_parts (same_task u c.0) (same_task v c.1) way in
        let is_u : u ≡ c.0 = same_task-true u c.0 parts.0 in
        let not_first : same_task v c.0 ≡ false = ap (same_task v) (sym is_u) ∙ same_task-sym v u ∙ ne in
        ap p is_u ∙ (or_parts (p c.0) (list_any p (neighbours_in cs v)) (rw (not_first, parts.1) at k)).0
    | inr way ↦
        let parts = and_parts (same_task u c.1) (same_task v c.0) way in
        let is_u : u ≡ c.1 = same_task-true u c.1 parts.0 in
        ap p is_u ∙ (or_parts (p c.1) (list_any p (neighbours_in cs v)) (rw parts.1 at k)).0
  ]
  | inr later ↦ neighbour_passes p u v cs ne later (none_of_rest p (other_end v c) (neighbours_in cs v) k)
]

-- what holds of each conflict holds of the one between u and v, named in one of the two orders
pub at_conflict : (P : Task × Task → Type 0) (u v : Task) (cs : List (Task × Task)) → AllByRecursion P cs → list_any (is_between u v) cs ≡ true → P (u, v) ⊎ P (v, u)
at_conflict P u v [] h k = absurd (let w : false ≡ true = k in cc)
at_conflict P u v (c ∷ cs) h k = elim (or_cases (is_between u v c) (list_any (is_between u v) cs) k) [
  | inl here ↦ elim (or_cases (same_task u c.0 && same_task v c.1) (same_task u c.1 && same_task v c.0) here) [
    | inl way ↦
        let parts = and_parts (same_task u c.0) (same_task v c.1) way in
        inl (named u v c (same_task-true u c.0 parts.0) (same_task-true v c.1 parts.1) h.0)
    | inr way ↦
        let parts = and_parts (same_task u c.1) (same_task v c.0) way in
        inr (named v u c (same_task-true v c.0 parts.1) (same_task-true u c.1 parts.0) h.0)
  ]
  | inr later ↦ at_conflict P u v cs h.1 later
]
  where
    named : (a b : Task) (c : Task × Task) → a ≡ c.0 → b ≡ c.1 → P c → P (a, b)
    named a b c ea eb h = subst (λ x. P (x, b)) (sym ea) (subst (λ y. P (c.0, y)) (sym eb) h)

-- ---- each pair once

-- two facts may be asked in either order
and-flip : (p q : Bool) → (p && q) ≡ (q && p)
and-flip true true = refl
and-flip true false = refl
and-flip false true = refl
and-flip false false = refl

-- which of two pairs is named first doesn't matter
pub same_pair-flip : (a b : Task) (c : Task × Task) → same_pair c (a, b) ≡ is_between a b c
same_pair-flip a b c =
    let straight : (same_task c.0 a && same_task c.1 b) ≡ (same_task a c.0 && same_task b c.1) = ap (λ x. x && same_task c.1 b) (same_task-sym c.0 a) ∙ ap (λ x. same_task a c.0 && x) (same_task-sym c.1 b) in
    let across : (same_task c.0 b && same_task c.1 a) ≡ (same_task a c.1 && same_task b c.0) = ap (λ x. x && same_task c.1 a) (same_task-sym c.0 b) ∙ ap (λ x. same_task b c.0 && x) (same_task-sym c.1 a) ∙ and-flip (same_task b c.0) (same_task a c.1) in
    ap (λ x. x || (same_task c.0 b && same_task c.1 a)) straight ∙ ap (λ x. (same_task a c.0 && same_task b c.1) || x) across

-- pairs that stand once still do with a pair behind them that wasn't there
pub each_pair_once-append : (cs : List (Task × Task)) (a b : Task) → IsDistinct same_pair cs → list_any (is_between a b) cs ≡ false → IsDistinct same_pair (cs ++ (a, b) ∷ [])
each_pair_once-append cs a b h k = IsDistinct-append same_pair cs (a, b) h (AllByRecursion-weaker (λ c. is_between a b c ≡ false) (λ c. same_pair c (a, b) ≡ false) (λ c e. same_pair-flip a b c ∙ e) cs (AllByRecursion-none (is_between a b) cs k))

-- ---- both ends are present

-- whoever was present still is
abbrev Stay : List Diner → List Diner → Type 0
Stay old new = (w : Task) → IsSome (state_in old w) → IsSome (state_in new w)

-- the ends of conflicts are present as long as all tasks stay
pub ends_present-weaker : (old new : List Diner) → Stay old new → (cs : List (Task × Task)) → EndsPresent old cs → EndsPresent new cs
ends_present-weaker old new stay cs h = AllByRecursion-weaker _ (λ c. IsSome (state_in new c.0) × IsSome (state_in new c.1)) (λ c k. (stay c.0 k.0, stay c.1 k.1)) cs h

-- all tasks stay where one comes behind them
pub stay-append : (order : List Diner) (d : Diner) → Stay order (order ++ d ∷ [])
stay-append [] d w h = absurd (let k : false ≡ true = h in cc)
stay-append (e ∷ es) d w h = elim (cases_Bool (same_task e.task w)) [
  | inl here ↦ rw here refl
  | inr past ↦ rw past (stay-append es d w (rw past at h))
]

-- all tasks stay where one gets another state
pub stay-with_state : (s : State) (u : Task) (order : List Diner) → Stay order (with_state s u order)
stay-with_state s u order w h = elim (cases_Bool (same_task u w)) [
  | inl e ↦
      let is : u ≡ w = same_task-true u w e in
      let present : IsSome (state_in order u) = ap (λ x. is_some (state_in order x)) is ∙ h in
      subst (λ x. IsSome (state_in (with_state s u order) x)) is (ap is_some (state_in-with_state_same s u order present))
  | inr e ↦ ap is_some (state_in-with_state_other s u w order e) ∙ h
]

-- all tasks stay where one moves to the end
pub stay-moved_last : (u : Task) (order : List Diner) → Stay order (moved_last u order)
stay-moved_last u order w h =
    let d : Diner = record { task = u; state = Thinking } in
    elim (cases_Bool (same_task u w)) [
      | inl e ↦ subst (λ x. IsSome (state_in (moved_last u order) x)) (same_task-true u w e) (ap is_some (state_in-append_same (without u order) d (state_in-without_same u order)))
      | inr e ↦ stay-append (without u order) d w (ap is_some (state_in-without_other u w order e) ∙ h)
    ]

-- the conflicts of whoever leaves go with it
pub ends_present-leave : (u : Task) (order : List Diner) (cs : List (Task × Task)) → EndsPresent order cs → EndsPresent (without u order) (filter (λ c. not (has_end u c)) cs)
ends_present-leave u order cs h = AllByRecursion-filter_weaker _ (λ c. IsSome (state_in (without u order) c.0) × IsSome (state_in (without u order) c.1)) (λ c. not (has_end u c)) (λ c e k.
    (let parts = or_parts (same_task u c.0) (same_task u c.1) (not-true (has_end u c) e) in
    (ap is_some (state_in-without_other u c.0 order parts.0) ∙ k.0, ap is_some (state_in-without_other u c.1 order parts.1) ∙ k.1))) cs h

-- ---- no two neighbours eat

-- whoever eats now ate before
abbrev NobodyBegins : List Diner → List Diner → Type 0
NobodyBegins old new = (w : Task) → is_in Eating new w ≡ true → is_in Eating old w ≡ true

-- of two facts that aren't both true, two stronger ones aren't either
fewer_both : (x y x' y' : Bool) → (x' ≡ true → x ≡ true) → (y' ≡ true → y ≡ true) → (x && y) ≡ false → (x' && y') ≡ false
fewer_both x y false y' f g h = refl
fewer_both x y true false f g h = refl
fewer_both x y true true f g h = absurd (let k : true ≡ false = sym (and_from x y (f refl) (g refl)) ∙ h in cc)

-- where nobody begins to eat, no two in conflict eat, if none did before
pub no_neighbours_eat-weaker : (old new : List Diner) → NobodyBegins old new → (cs : List (Task × Task)) → NoNeighboursEat old cs → NoNeighboursEat new cs
no_neighbours_eat-weaker old new nobody cs h = AllByRecursion-weaker _ (λ c. (is_in Eating new c.0 && is_in Eating new c.1) ≡ false) (λ c k. fewer_both (is_in Eating old c.0) (is_in Eating old c.1) (is_in Eating new c.0) (is_in Eating new c.1) (nobody c.0) (nobody c.1) k) cs h

-- a newcomer, who thinks, lets nobody begin to eat
pub nobody_begins-append : (order : List Diner) (u : Task) → NobodyBegins order (order ++ record { task = u; state = Thinking } ∷ [])
nobody_begins-append [] u w h = elim (cases_Bool (same_task u w)) [
  | inl e ↦ absurd (let k : false ≡ true = rw e at h in cc)
  | inr e ↦ absurd (let k : false ≡ true = rw e at h in cc)
]
nobody_begins-append (d ∷ ds) u w h = elim (cases_Bool (same_task d.task w)) [
  | inl e ↦ rw e (rw e at h)
  | inr e ↦ rw e (nobody_begins-append ds u w (rw e at h))
]

-- whoever is taken out lets nobody begin to eat
pub nobody_begins-without : (u : Task) (order : List Diner) → NobodyBegins order (without u order)
nobody_begins-without u order w h = elim (cases_Bool (same_task u w)) [
  | inl e ↦ absurd (let gone : state_in (without u order) w ≡ None = subst (λ x. state_in (without u order) x ≡ None) (same_task-true u w e) (state_in-without_same u order) in let k : false ≡ true = rw gone at h in cc)
  | inr e ↦ ap (is_found Eating) (sym (state_in-without_other u w order e)) ∙ h
]

-- nobody begins where a task goes into a state other than eating
pub nobody_begins-with_state : (s : State) → same_state Eating s ≡ false → (u : Task) (order : List Diner) → NobodyBegins order (with_state s u order)
nobody_begins-with_state s rests u [] w h = h
nobody_begins-with_state s rests u (d ∷ ds) w h = elim (cases_Bool (same_task d.task w)) [
  | inl e ↦
      let now : is_found Eating (Some (cond (same_task d.task u) s d.state)) ≡ true = rw (diner_put_in-task s u d, e, diner_put_in-state s u d) at h in
      rw e (still (same_task d.task u) now)
  | inr e ↦ rw e (nobody_begins-with_state s rests u ds w (rw (diner_put_in-task s u d, e) at h))
]
  where
    still : (b : Bool) → same_state Eating (cond b s d.state) ≡ true → same_state Eating d.state ≡ true
    still true k = absurd (let x : false ≡ true = sym rests ∙ k in cc)
    still false k = k

-- whoever moves to the end, thinking, lets nobody begin to eat
pub nobody_begins-moved_last : (u : Task) (order : List Diner) → NobodyBegins order (moved_last u order)
nobody_begins-moved_last u order w h = nobody_begins-without u order w (nobody_begins-append (without u order) u w h)

-- a neighbour of whoever is ready doesn't eat
pub no_neighbours_eat-begin : (u : Task) (order : List Diner) (cs : List (Task × Task)) → EndsDiffer cs → list_any (keeps_waiting order u) (neighbours_in cs u) ≡ false → NoNeighboursEat order cs → NoNeighboursEat (with_state Eating u order) cs
no_neighbours_eat-begin u order [] differ free h = tt
no_neighbours_eat-begin u order (c ∷ cs) differ free h = (here, no_neighbours_eat-begin u order cs differ.1 (none_of_rest (keeps_waiting order u) (other_end u c) (neighbours_in cs u) free) h.1)
  where
    now : List Diner
    now = with_state Eating u order

    -- whoever is another and doesn't keep u waiting doesn't eat
    rests : (v : Task) → same_task u v ≡ false → keeps_waiting order u v ≡ false → is_in Eating now v ≡ false
    rests v other k = ap (is_found Eating) (state_in-with_state_other Eating u v order other) ∙ (or_parts (is_in Eating order v) (is_in Hungry order v && stands_before order v u) k).0

    here : (is_in Eating now c.0 && is_in Eating now c.1) ≡ false
    here = elim (cases_Bool (same_task u c.0)) [
      | inl first ↦
          let other : same_task u c.1 ≡ false = ap (λ x. same_task x c.1) (same_task-true u c.0 first) ∙ differ.0 in
          and_right (is_in Eating now c.0) (is_in Eating now c.1) (rests c.1 other (or_parts (keeps_waiting order u c.1) (list_any (keeps_waiting order u) (neighbours_in cs u)) (rw first at free)).0)
      | inr not_first ↦ elim (cases_Bool (same_task u c.1)) [
        | inl second ↦ and_left (is_in Eating now c.0) (is_in Eating now c.1) (rests c.0 not_first (or_parts (keeps_waiting order u c.0) (list_any (keeps_waiting order u) (neighbours_in cs u)) (rw (not_first, second) at free)).0)
        | inr not_second ↦ rw (state_in-with_state_other Eating u c.0 order not_first, state_in-with_state_other Eating u c.1 order not_second) h.0
      ]
    ]

-- ---- in a sound table

-- the two ends may be named in either order
pub conflict_either_way : (u v : Task) (cs : List (Task × Task)) → list_any (is_between u v) cs ≡ list_any (is_between v u) cs
conflict_either_way u v [] = refl
conflict_either_way u v (c ∷ cs) = ap (λ x. x || list_any (is_between u v) cs) here ∙ ap (λ x. is_between v u c || x) (conflict_either_way u v cs)
  where
    or-flip : (p q : Bool) → (p || q) ≡ (q || p)
    or-flip true true = refl
    or-flip true false = refl
    or-flip false true = refl
    or-flip false false = refl

    here : is_between u v c ≡ is_between v u c
    here =
        ap (λ x. x || (same_task u c.1 && same_task v c.0)) (and-flip (same_task u c.0) (same_task v c.1))
        ∙ ap (λ x. (same_task v c.1 && same_task u c.0) || x) (and-flip (same_task u c.1) (same_task v c.0))
        ∙ or-flip (same_task v c.1 && same_task u c.0) (same_task v c.0 && same_task u c.1)

-- the ends of a conflict differ
pub conflict_differs : (t : Table) → IsSound t → (u v : Task) → are_in_conflict t u v ≡ true → u ≡ v → ⊥
conflict_differs t sound u v apart same = elim (at_conflict (λ c. same_task c.0 c.1 ≡ false) u v t.conflicts sound.ends_differ apart) [
  | inl h ↦ let k : true ≡ false = sym (same_task-refl u) ∙ ap (same_task u) same ∙ h in cc
  | inr h ↦ let k : true ≡ false = sym (same_task-refl v) ∙ ap (same_task v) (sym same) ∙ h in cc
]

-- the ends of a conflict are present
pub conflict_present : (t : Table) → IsSound t → (u v : Task) → are_in_conflict t u v ≡ true → IsSome (state_of t u) × IsSome (state_of t v)
conflict_present t sound u v apart = elim (at_conflict (λ c. IsSome (state_of t c.0) × IsSome (state_of t c.1)) u v t.conflicts sound.ends_present apart) [
  | inl h ↦ h
  | inr h ↦ (h.1, h.0)
]

-- the two ends of a conflict don't both eat
pub neighbours_rest : (t : Table) → IsSound t → (u v : Task) → are_in_conflict t u v ≡ true → state_of t u ≡ Some Eating → state_of t v ≡ Some Eating → ⊥
neighbours_rest t sound u v apart hu hv = elim (at_conflict (λ c. (is_in Eating t.order c.0 && is_in Eating t.order c.1) ≡ false) u v t.conflicts sound.no_neighbours_eat apart) [
  | inl h ↦ let k : true ≡ false = rw (hu, hv) at h in cc
  | inr h ↦ let k : true ≡ false = rw (hu, hv) at h in cc
]
