-- What a change of the order leaves as it was.
use Rattle.std.proofs.Common.{◌≡◌, true, false, not, cond, List, [], ◌∷◌, ◌++◌, Some, None, is_some, inl, inr, refl, ap, ◌∙◌, arith}
use Rattle.std.proofs.lemmas.Bool.{cases_Bool}
use Rattle.std.proofs.lemmas.Bool.Decides.{nat_tests}
use Rattle.dine_words.specs.declared.task.Task.{Task}
use Rattle.dine_words.specs.declared.task.State.{State}
use Rattle.dine_words.specs.declared.task.Diner.{Diner}
use Rattle.dine_table.specs.Table.{same_task, state_in, stands_before}
use Rattle.dine_table.specs.Calls.{diner_put_in, with_state, without}
use Rattle.dine_table.proofs.Tasks.{same_task-refl, same_task-true}

-- a diner keeps its task where some task gets a state
pub diner_put_in-task : (s : State) (u : Task) (d : Diner) → (diner_put_in s u d).task ≡ d.task
diner_put_in-task s u d = elim (same_task d.task u) as (λ b. (let e : Diner = cond b record { task = d.task; state = s } d in e.task) ≡ d.task) [ true ↦ refl | false ↦ refl ]

-- a diner gets the state that its task gets, and else keeps its own
pub diner_put_in-state : (s : State) (u : Task) (d : Diner) → (diner_put_in s u d).state ≡ cond (same_task d.task u) s d.state
diner_put_in-state s u d = elim (same_task d.task u) as (λ b. (let e : Diner = cond b record { task = d.task; state = s } d in e.state) ≡ cond b s d.state) [ true ↦ refl | false ↦ refl ]

-- another task keeps its state
pub state_in-with_state_other : (s : State) (u v : Task) (order : List Diner) → same_task u v ≡ false → state_in (with_state s u order) v ≡ state_in order v
state_in-with_state_other s u v [] h = refl
state_in-with_state_other s u v (d ∷ ds) h = rw (diner_put_in-task s u d, diner_put_in-state s u d) (grind (arith, nat_tests, h, state_in-with_state_other s u v ds h))

-- a task that is present gets the state
pub state_in-with_state_same : (s : State) (u : Task) (order : List Diner) → is_some (state_in order u) ≡ true → state_in (with_state s u order) u ≡ Some s
state_in-with_state_same s u [] h = cc
state_in-with_state_same s u (d ∷ ds) h = rw (diner_put_in-task s u d, diner_put_in-state s u d) (elim (cases_Bool (same_task d.task u)) [
  | inl e ↦ rw e refl
  | inr e ↦ rw e (state_in-with_state_same s u ds (rw e at h))
])

-- the order stays
pub stands_before-with_state : (s : State) (u a b : Task) (order : List Diner) → stands_before (with_state s u order) a b ≡ stands_before order a b
stands_before-with_state s u a b [] = refl
stands_before-with_state s u a b (d ∷ ds) = rw (diner_put_in-task s u d, stands_before-with_state s u a b ds) refl

-- ---- without a task

-- all others keep their states where one is taken out
pub state_in-without_other : (u v : Task) (order : List Diner) → same_task u v ≡ false → state_in (without u order) v ≡ state_in order v
state_in-without_other u v [] h = refl
state_in-without_other u v (d ∷ ds) h = elim (cases_Bool (same_task d.task u)) [
  | inl e ↦ rw (e, state_in-without_other u v ds h, ap (λ x. same_task x v) (same_task-true d.task u e), h) refl
  | inr e ↦ rw (e, state_in-without_other u v ds h) refl
]

-- whoever is taken out is there no more
pub state_in-without_same : (u : Task) (order : List Diner) → state_in (without u order) u ≡ None
state_in-without_same u [] = refl
state_in-without_same u (d ∷ ds) = elim (cases_Bool (same_task d.task u)) [
  | inl e ↦ rw e (state_in-without_same u ds)
  | inr e ↦ rw (e, e) (state_in-without_same u ds)
]

-- two others keep their order where one is taken out
pub stands_before-without : (u a b : Task) (order : List Diner) → same_task u a ≡ false → same_task u b ≡ false → stands_before (without u order) a b ≡ stands_before order a b
stands_before-without u a b [] ha hb = refl
stands_before-without u a b (d ∷ ds) ha hb = elim (cases_Bool (same_task d.task u)) [
  | inl e ↦ rw (e, stands_before-without u a b ds ha hb, ap (λ x. same_task x b) (same_task-true d.task u e), hb, ap (λ x. same_task x a) (same_task-true d.task u e), ha) refl
  | inr e ↦ rw (e, stands_before-without u a b ds ha hb) refl
]

-- ---- one more at the end

-- all others keep their states where one comes behind them
pub state_in-append_other : (order : List Diner) (d : Diner) (v : Task) → same_task d.task v ≡ false → state_in (order ++ d ∷ []) v ≡ state_in order v
state_in-append_other [] d v h = rw h refl
state_in-append_other (e ∷ es) d v h = rw (state_in-append_other es d v h) refl

-- whoever comes behind all others, and wasn't there, has its state
pub state_in-append_same : (order : List Diner) (d : Diner) → state_in order d.task ≡ None → state_in (order ++ d ∷ []) d.task ≡ Some d.state
state_in-append_same [] d h = rw (same_task-refl d.task) refl
state_in-append_same (e ∷ es) d h = elim (cases_Bool (same_task e.task d.task)) [
  | inl same ↦ absurd (let k : Some e.state ≡ None = rw same at h in cc)
  | inr other ↦ rw other (state_in-append_same es d (rw other at h))
]

-- two others keep their order where one comes behind them
pub stands_before-append : (order : List Diner) (d : Diner) (a b : Task) → same_task d.task a ≡ false → same_task d.task b ≡ false → stands_before (order ++ d ∷ []) a b ≡ stands_before order a b
stands_before-append [] d a b ha hb = rw (hb, ha) refl
stands_before-append (e ∷ es) d a b ha hb = rw (stands_before-append es d a b ha hb) refl

-- whoever is present stands before the last
pub stands_before-last : (order : List Diner) (d : Diner) (a : Task) → state_in order d.task ≡ None → is_some (state_in order a) ≡ true → stands_before (order ++ d ∷ []) a d.task ≡ true
stands_before-last [] d a none some = absurd (let k : false ≡ true = some in cc)
stands_before-last (e ∷ es) d a none some = elim (cases_Bool (same_task e.task d.task)) [
  | inl same ↦ absurd (let k : Some e.state ≡ None = rw same at none in cc)
  | inr other ↦ rw other (elim (cases_Bool (same_task e.task a)) [
    | inl here ↦ rw here refl
    | inr past ↦ rw past (stands_before-last es d a (rw other at none) (rw past at some))
  ])
]

-- the last stands before nobody
pub last-stands_before : (order : List Diner) (d : Diner) (b : Task) → state_in order d.task ≡ None → is_some (state_in order b) ≡ true → stands_before (order ++ d ∷ []) d.task b ≡ false
last-stands_before [] d b none some = absurd (let k : false ≡ true = some in cc)
last-stands_before (e ∷ es) d b none some = elim (cases_Bool (same_task e.task b)) [
  | inl here ↦ rw here refl
  | inr past ↦ rw past (elim (cases_Bool (same_task e.task d.task)) [
    | inl same ↦ absurd (let k : Some e.state ≡ None = rw same at none in cc)
    | inr other ↦ rw other (last-stands_before es d b (rw other at none) (rw past at some))
  ])
]

-- of two tasks that are present, one stands before the other
pub stands_before-other_way : (order : List Diner) (a b : Task) → same_task a b ≡ false → is_some (state_in order a) ≡ true → is_some (state_in order b) ≡ true → stands_before order b a ≡ not (stands_before order a b)
stands_before-other_way [] a b ne some_a some_b = absurd (let k : false ≡ true = some_a in cc)
stands_before-other_way (d ∷ ds) a b ne some_a some_b = elim (cases_Bool (same_task d.task a)) [
  | inl is_a ↦ let not_b : same_task d.task b ≡ false = ap (λ x. same_task x b) (same_task-true d.task a is_a) ∙ ne in rw (is_a, not_b) refl
  | inr not_a ↦ rw not_a (elim (cases_Bool (same_task d.task b)) [
    | inl is_b ↦ rw is_b refl
    | inr not_b ↦ rw not_b (stands_before-other_way ds a b ne (rw not_a at some_a) (rw not_b at some_b))
  ])
]
