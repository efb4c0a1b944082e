-- Where somebody is hungry and nobody eats, somebody is ready.
use Rattle.std.proofs.Common.{◌≡◌, Bool, true, false, ◌&&◌, not, List, [], ◌∷◌, Option, Some, None, is_some, inl, inr, refl, sym, ap, ◌∙◌}
use Rattle.std.specs.List.{list_any, find}
use Rattle.std.specs.Prelude.{option_map}
use Rattle.std.proofs.lemmas.Bool.{and_parts, cases_Bool, false_from_ne_true}
use Rattle.dine_words.specs.declared.task.Task.{Task}
use Rattle.dine_words.specs.declared.task.State.{State}
use Rattle.dine_words.specs.declared.task.State.TheVariants.{Hungry, Eating}
use Rattle.dine_words.specs.declared.task.Diner.{Diner}
use Rattle.dine_table.specs.Table.{Table, same_task, same_state, is_in, state_in, state_of, stands_before, keeps_waiting, neighbours_of, is_ready, is_found, next_ready_of}
use Rattle.dine_table.specs.Sound.{EachOnce, IsSound}
use Rattle.dine_table.proofs.Tasks.{same_task-refl, same_task-true}
use Rattle.dine_table.proofs.Accepted.{same_state-true}

-- ---- the first who is hungry

-- a fact and a false one aren't both true
and_false : (b : Bool) → (b && false) ≡ false
and_false true = refl
and_false false = refl

-- where somebody is hungry, some hungry task has no other hungry one before it
first_hungry : (order : List Diner) (u : Task) → EachOnce order → state_in order u ≡ Some Hungry → (w : Task) × (state_in order w ≡ Some Hungry) × ((v : Task) → (is_in Hungry order v && stands_before order v w) ≡ false)
first_hungry [] u once h = absurd (let k : None ≡ Some Hungry = h in cc)
first_hungry (d ∷ ds) u once h = elim (cases_Bool (same_state Hungry d.state)) [
  | inl hungry ↦ (d.task, rw (same_task-refl d.task) (ap (λ s. Some s) (same_state-true Hungry d.state hungry)), λ v. rw (same_task-refl d.task) (and_false (is_in Hungry (d ∷ ds) v)))
  | inr full ↦ elim (cases_Bool (same_task d.task u)) [
    | inl e ↦ absurd (
        let k : Some d.state ≡ Some Hungry = rw e at h in
        let is : d.state ≡ Hungry = cc in
        let w : true ≡ false = ap (same_state Hungry) (sym is) ∙ full in cc)
    | inr e ↦
        let (w, hw, first) = first_hungry ds u once.1 (rw e at h) in
        let other : same_task d.task w ≡ false = elim (cases_Bool (same_task d.task w)) [
          | inl f ↦ absurd (let k : None ≡ Some Hungry = sym once.0 ∙ ap (state_in ds) (same_task-true d.task w f) ∙ hw in cc)
          | inr f ↦ f
        ] in (
          w,
          rw other hw,
          λ v. elim (cases_Bool (same_task d.task v)) [
            | inl f ↦ rw (f, full) refl
            | inr f ↦ rw (f, other) (first v)
          ],
        )
  ]
]

-- a test that every task fails is passed by none of a list
none_passes : (p : Task → Bool) (us : List Task) → ((v : Task) → p v ≡ false) → list_any p us ≡ false
none_passes p [] h = refl
none_passes p (v ∷ vs) h = rw (h v) (none_passes p vs h)

-- a search for a task that passes finds some, where one that is present passes
found_in : (p : Task → Bool) (order : List Diner) (w : Task) (x : State) → state_in order w ≡ Some x → p w ≡ true → is_some (find (λ d. p d.task) order) ≡ true
found_in p [] w x h k = absurd (let e : None ≡ Some x = h in cc)
found_in p (d ∷ ds) w x h k = elim (cases_Bool (p d.task)) [
  | inl e ↦ rw e refl
  | inr e ↦ elim (cases_Bool (same_task d.task w)) [
    | inl f ↦ absurd (let z : true ≡ false = sym k ∙ ap p (sym (same_task-true d.task w f)) ∙ e in cc)
    | inr f ↦ rw e (found_in p ds w x (rw f at h) k)
  ]
]

-- some diner is ready
pub someone_ready : (t : Table) (u : Task) → EachOnce t.order → state_of t u ≡ Some Hungry → ((v : Task) → is_in Eating t.order v ≡ false) → is_some (find (λ d. is_ready t d.task) t.order) ≡ true
someone_ready t u once h nobody =
    let (w, hw, first) = first_hungry t.order u once h in
    let free : list_any (keeps_waiting t.order w) (neighbours_of t w) ≡ false = none_passes (keeps_waiting t.order w) (neighbours_of t w) (λ v. rw (nobody v) (first v)) in
    found_in (is_ready t) t.order w Hungry hw (rw (hw, free) refl)

-- ---- the next one

-- where a diner is found, so is its name
is_some-named : (o : Option Diner) → is_some o ≡ true → is_some (option_map (λ d. d.task) o) ≡ true
is_some-named None h = h
is_some-named (Some d) h = refl

-- where a task is hungry and nobody eats, there is a next one
pub next_ready-some : (t : Table) (u : Task) → IsSound t → state_of t u ≡ Some Hungry → ((v : Task) → state_of t v ≡ Some Eating → ⊥) → is_some (next_ready_of t) ≡ true
next_ready-some t u sound hungry nobody = is_some-named (find (λ d. is_ready t d.task) t.order) (someone_ready t u sound.each_once hungry (λ v. rests (state_of t v) (nobody v)))
  where
    rests : (o : Option State) → (o ≡ Some Eating → ⊥) → is_found Eating o ≡ false
    rests None h = refl
    rests (Some x) h = false_from_ne_true (same_state Eating x) (λ e. h (ap (λ s. Some s) (same_state-true Eating x e)))

-- the task that a search names passes its test
named_passes : (p : Task → Bool) (order : List Diner) (v : Task) → option_map (λ d. d.task) (find (λ d. p d.task) order) ≡ Some v → p v ≡ true
named_passes p [] v h = absurd (let k : None ≡ Some v = h in cc)
named_passes p (d ∷ ds) v h = elim (cases_Bool (p d.task)) [
  | inl e ↦ let k : Some d.task ≡ Some v = rw e at h in let is : d.task ≡ v = cc in ap p (sym is) ∙ e
  | inr e ↦ named_passes p ds v (rw e at h)
]

-- no task that passes stands before the one that a search names
named_first : (p : Task → Bool) (order : List Diner) (v w : Task) → option_map (λ d. d.task) (find (λ d. p d.task) order) ≡ Some v → p w ≡ true → stands_before order w v ≡ false
named_first p [] v w h k = refl
named_first p (d ∷ ds) v w h k = elim (cases_Bool (p d.task)) [
  | inl e ↦ let f : Some d.task ≡ Some v = rw e at h in let is : d.task ≡ v = cc in rw (ap (same_task d.task) (sym is) ∙ same_task-refl d.task) refl
  | inr e ↦ elim (cases_Bool (same_task d.task v)) [
    | inl here ↦ rw here refl
    | inr past ↦ elim (cases_Bool (same_task d.task w)) [
      | inl is_w ↦ absurd (let z : true ≡ false = sym k ∙ ap p (sym (same_task-true d.task w is_w)) ∙ e in cc)
      | inr other ↦ rw (past, other) (named_first p ds v w (rw e at h) k)
    ]
  ]
]

-- the next one is ready
pub next_ready-ready : (t : Table) (v : Task) → next_ready_of t ≡ Some v → is_ready t v ≡ true
next_ready-ready t v h = named_passes (is_ready t) t.order v h

-- nobody else who is ready has eaten earlier
pub next_ready-first : (t : Table) (v w : Task) → next_ready_of t ≡ Some v → is_ready t w ≡ true → stands_before t.order w v ≡ false
next_ready-first t v w h k = named_first (is_ready t) t.order v w h k

-- whoever is hungry is present
pub ready_present : (t : Table) (w : Task) → is_ready t w ≡ true → (x : State) × (state_of t w ≡ Some x)
ready_present t w h = present (state_of t w) (and_parts (is_in Hungry t.order w) (not (list_any (keeps_waiting t.order w) (neighbours_of t w))) h).0
  where
    present : (o : Option State) → is_found Hungry o ≡ true → (x : State) × (o ≡ Some x)
    present None k = absurd (let z : false ≡ true = k in cc)
    present (Some x) k = (x, refl)

-- where no name is found, no diner is
named_none : (o : Option Diner) → option_map (λ d. d.task) o ≡ None → is_some o ≡ false
named_none None h = refl
named_none (Some d) h = absurd (let z : Some d.task ≡ None = h in cc)

-- where there is no next one, nobody is ready
pub next_ready-none : (t : Table) (w : Task) → next_ready_of t ≡ None → is_ready t w ≡ false
next_ready-none t w h = false_from_ne_true (is_ready t w) (λ ready.
    (let (x, is) = ready_present t w ready in
    let z : true ≡ false = sym (found_in (is_ready t) t.order w x is ready) ∙ named_none (find (λ d. is_ready t d.task) t.order) h in
    cc))
