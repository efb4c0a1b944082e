-- A call changes what is drawn of no task but those that are looked at, and these are present.
use Rattle.std.proofs.Common.{◌≡◌, Bool, true, false, not, ◌&&◌, ◌||◌, List, [], ◌∷◌, ◌++◌, Option, Some, None, is_some, is_none, inl, inr, refl, sym, ap, ◌∙◌}
use Rattle.std.specs.List.{Contains, filter, list_any, cons_option}
use Rattle.std.proofs.lemmas.Bool.{cases_Bool, and_parts, or_cases, or_left, or_right, or_parts, false_from_ne_true}
use Rattle.std.proofs.lemmas.List.Folds.{list_any_at, list_any-append}
use Rattle.std.proofs.lemmas.Map.Views.{Contains-from_any}
use Rattle.dine_words.specs.declared.task.Diner.{Diner}
use Rattle.dine_words.specs.declared.task.Task.{Task}
use Rattle.dine_words.specs.declared.task.State.{State}
use Rattle.dine_words.specs.declared.task.State.TheVariants.{Thinking, Hungry, Eating}
use Rattle.dine_words.specs.declared.call.Call.{Call}
use Rattle.dine_words.specs.declared.call.Call.TheVariants as call
use Rattle.dine_words.specs.declared.call.Refusal.{Refusal}
use Rattle.dine_words.specs.declared.call.Refusal.TheVariants.{Unknown}
use Rattle.dine_table.specs.Table.{Table, same_task, state_in, state_of, has_end, is_between, are_in_conflict, other_end, neighbours_in, neighbours_of, stands_before, keeps_waiting}
use Rattle.dine_table.specs.Calls.{newcomer, is_absent, refusal_of, refusal_unless, changed_by, table_after_call, with_state, without, moved_last}
use Rattle.dine_table.specs.Sound.{IsSound}
use Rattle.dine_table.proofs.CallerLemmas.{conflict_either_way, conflict_present, found, neighbours_exactly, newcomer_absent, or_else-None, passed, same_task-refl, same_task-sym, same_task-true, stands_before-append, stands_before-with_state, stands_before-without, state_in-append_other, state_in-append_same, state_in-with_state_other, state_in-without_other, state_in-without_same}
use Rattle.dine_bars.specs.Bars.{kind_at}
use Rattle.dine_bars.specs.Marks.{beside, looked_at, looked_at_by}

-- ---- lists

-- two tests that agree on each item of a list
any_same : (p q : Task → Bool) (xs : List Task) → ((v : Task) → list_any (same_task v) xs ≡ true → p v ≡ q v) → list_any p xs ≡ list_any q xs
any_same p q [] agree = refl
any_same p q (x ∷ xs) agree =
    ap (λ b. b || list_any p xs) (agree x (or_left (same_task x x) (list_any (same_task x) xs) (same_task-refl x)))
    ∙ ap (λ b. q x || b) (any_same p q xs (λ v k. agree v (or_right (same_task v x) (list_any (same_task v) xs) k)))

-- a task that a list has is found in it
member : (xs : List Task) (v : Task) → Contains xs v → list_any (same_task v) xs ≡ true
member xs v there = let (k, inside, at) = there in list_any_at (same_task v) xs k v inside (ap (same_task v) at ∙ same_task-refl v)

-- a neighbour is in conflict with its task
pub in_conflict : (t : Table) (u v : Task) → list_any (same_task v) (neighbours_of t u) ≡ true → are_in_conflict t u v ≡ true
in_conflict t u v h = (neighbours_exactly t u v).0 (Contains-from_any {eq = same_task} same_task-true v (neighbours_of t u) h)

-- whoever has a neighbour is a neighbour of it
pub each_other : (t : Table) (u v : Task) → list_any (same_task v) (neighbours_of t u) ≡ true → list_any (same_task u) (neighbours_of t v) ≡ true
each_other t u v h = member (neighbours_of t v) u ((neighbours_exactly t v u).1 (conflict_either_way v u t.conflicts ∙ in_conflict t u v h))

-- ---- what is drawn, by what it depends on

-- nothing is drawn of a task that isn't present
none_if_absent : (t : Table) (w : Task) → state_of t w ≡ None → kind_at t w ≡ None
none_if_absent t w h = rw h refl

-- nothing is drawn of a task that thinks
none_if_thinking : (t : Table) (w : Task) → state_of t w ≡ Some Thinking → kind_at t w ≡ None
none_if_thinking t w h = rw h refl

-- the state, and whether a neighbour keeps the task waiting
same_drawn : (t next : Table) (w : Task) → state_of next w ≡ state_of t w → list_any (keeps_waiting next.order w) (neighbours_of next w) ≡ list_any (keeps_waiting t.order w) (neighbours_of t w) → kind_at next w ≡ kind_at t w
same_drawn t next w states waits = rw (states, waits) refl

-- where one task alone has another state and another place, and is no neighbour
module _ (t : Table) (next : List Diner) (x : Task) (states : (v : Task) → same_task x v ≡ false → state_in next v ≡ state_in t.order v) (orders : (a b : Task) → same_task x a ≡ false → same_task x b ≡ false → stands_before next a b ≡ stands_before t.order a b) where
  -- two others keep each other waiting as they did
  pub keeps_same : (w v : Task) → same_task x w ≡ false → same_task x v ≡ false → keeps_waiting next w v ≡ keeps_waiting t.order w v
  keeps_same w v other_w other_v = rw (states v other_v, orders v w other_v other_w) refl

  -- a neighbour keeps another waiting where one did
  waits_same : (w : Task) → same_task x w ≡ false → ((v : Task) → list_any (same_task v) (neighbours_of t w) ≡ true → same_task x v ≡ false) → list_any (keeps_waiting next w) (neighbours_of t w) ≡ list_any (keeps_waiting t.order w) (neighbours_of t w)
  waits_same w other apart = any_same (keeps_waiting next w) (keeps_waiting t.order w) (neighbours_of t w) (λ v k. keeps_same w v other (apart v k))

-- whoever isn't beside x has no neighbour x
module _ (t : Table) (x w : Task) (s : State) (here : state_of t x ≡ Some s) (away : list_any (same_task w) (beside t x) ≡ false) where
  -- w is no neighbour of x, and is not x
  parts : (list_any (same_task w) (neighbours_of t x) ≡ false) × (same_task w x ≡ false)
  parts =
      let split : (list_any (same_task w) (neighbours_of t x) || (same_task w x || false)) ≡ false = sym (list_any-append (same_task w) (neighbours_of t x) (x ∷ [])) ∙ (rw here at away) in
      let both = or_parts (list_any (same_task w) (neighbours_of t x)) (same_task w x || false) split in
      (both.0, (or_parts (same_task w x) false both.1).0)

  -- x is another task
  is_other : same_task x w ≡ false
  is_other = same_task-sym x w ∙ parts.1

  -- no neighbour of w is x
  apart_from : (v : Task) → list_any (same_task v) (neighbours_of t w) ≡ true → same_task x v ≡ false
  apart_from v k = false_from_ne_true (same_task x v) (λ same. (let h : list_any (same_task x) (neighbours_of t w) ≡ true = ap (λ y. list_any (same_task y) (neighbours_of t w)) (same_task-true x v same) ∙ k in let clash : true ≡ false = sym (each_other t w x h) ∙ parts.0 in cc))

-- ---- conflicts that come and go

-- a task that is no end of a new conflict keeps its neighbours
neighbours-append : (a b w : Task) (cs : List (Task × Task)) → same_task w a ≡ false → same_task w b ≡ false → neighbours_in (cs ++ (a, b) ∷ []) w ≡ neighbours_in cs w
neighbours-append a b w [] not_a not_b = rw (not_a, not_b) refl
neighbours-append a b w (c ∷ cs) not_a not_b = ap (cons_option (other_end w c)) (neighbours-append a b w cs not_a not_b)

-- a task that is no end of a conflict that goes keeps its neighbours
neighbours-separate : (a b w : Task) (cs : List (Task × Task)) → same_task w a ≡ false → same_task w b ≡ false → neighbours_in (filter (λ c. not (is_between a b c)) cs) w ≡ neighbours_in cs w
neighbours-separate a b w [] not_a not_b = refl
neighbours-separate a b w (c ∷ cs) not_a not_b = elim (cases_Bool (is_between a b c)) [
  | inl goes ↦ rw (goes, no_end goes) (neighbours-separate a b w cs not_a not_b)
  | inr stays ↦ rw stays (ap (cons_option (other_end w c)) (neighbours-separate a b w cs not_a not_b))
]
  where
    no_end : is_between a b c ≡ true → other_end w c ≡ None
    no_end goes = elim (or_cases (same_task a c.0 && same_task b c.1) (same_task a c.1 && same_task b c.0) goes) [
      | inl way ↦
          let ends = and_parts (same_task a c.0) (same_task b c.1) way in
          let first : same_task w c.0 ≡ false = ap (same_task w) (sym (same_task-true a c.0 ends.0)) ∙ not_a in
          let second : same_task w c.1 ≡ false = ap (same_task w) (sym (same_task-true b c.1 ends.1)) ∙ not_b in
          rw (first, second) refl
      | inr way ↦
          let ends = and_parts (same_task a c.1) (same_task b c.0) way in
          let first : same_task w c.0 ≡ false = ap (same_task w) (sym (same_task-true b c.0 ends.1)) ∙ not_b in
          let second : same_task w c.1 ≡ false = ap (same_task w) (sym (same_task-true a c.1 ends.0)) ∙ not_a in
          rw (first, second) refl
    ]

-- x, which leaves, passes no test, and the tests agree on whoever stays
waits-leave : (p q : Task → Bool) (x w : Task) (cs : List (Task × Task)) → q x ≡ false → ((v : Task) → same_task x v ≡ false → p v ≡ q v) → same_task x w ≡ false
    → list_any p (neighbours_in (filter (λ c. not (has_end x c)) cs) w) ≡ list_any q (neighbours_in cs w)
waits-leave p q x w [] fails agree other = refl
waits-leave p q x w (c ∷ cs) fails agree other = elim (cases_Bool (same_task w c.0)) [
  | inl first ↦
      let not_first : same_task x c.0 ≡ false = ap (same_task x) (sym (same_task-true w c.0 first)) ∙ other in
      elim (cases_Bool (same_task x c.1)) [
        | inl is ↦ let none : q c.1 ≡ false = ap q (sym (same_task-true x c.1 is)) ∙ fails in rw (not_first, is, first, none) (waits-leave p q x w cs fails agree other)
        | inr isnt ↦ rw (not_first, isnt, first) (ap (λ b. b || list_any p (neighbours_in (filter (λ d. not (has_end x d)) cs) w)) (agree c.1 isnt) ∙ ap (λ b. q c.1 || b) (waits-leave p q x w cs fails agree other))
      ]
  | inr not_w ↦ elim (cases_Bool (same_task w c.1)) [
    | inl second ↦
        let not_second : same_task x c.1 ≡ false = ap (same_task x) (sym (same_task-true w c.1 second)) ∙ other in
        elim (cases_Bool (same_task x c.0)) [
          | inl is ↦ let none : q c.0 ≡ false = ap q (sym (same_task-true x c.0 is)) ∙ fails in rw (is, not_w, second, none) (waits-leave p q x w cs fails agree other)
          | inr isnt ↦ rw (isnt, not_second, not_w, second) (ap (λ b. b || list_any p (neighbours_in (filter (λ d. not (has_end x d)) cs) w)) (agree c.0 isnt) ∙ ap (λ b. q c.0 || b) (waits-leave p q x w cs fails agree other))
        ]
    | inr nor_w ↦ elim (cases_Bool (has_end x c)) [
      | inl goes ↦ rw (goes, not_w, nor_w) (waits-leave p q x w cs fails agree other)
      | inr stays ↦ rw (stays, not_w, nor_w) (waits-leave p q x w cs fails agree other)
    ]
  ]
]

-- ---- each accepted call

module _ (t : Table) (sound : IsSound t) (w : Task) where
  -- whoever joins was absent
  newcomer_is_absent : state_of t (newcomer t) ≡ None
  newcomer_is_absent = newcomer_absent t.order t.clock (newcomer t) refl sound.born_before

  -- a join changes nothing that is drawn of anybody
  unchanged_join : kind_at (changed_by t call.Join) w ≡ kind_at t w
  unchanged_join =
      let d : Diner = record { task = newcomer t; state = Thinking } in
      elim (cases_Bool (same_task (newcomer t) w)) [
        | inl same ↦
            let is : newcomer t ≡ w = same_task-true (newcomer t) w same in
            let before : state_of t w ≡ None = ap (state_of t) (sym is) ∙ newcomer_is_absent in
            let after : state_in (t.order ++ d ∷ []) w ≡ Some Thinking = ap (state_in (t.order ++ d ∷ [])) (sym is) ∙ state_in-append_same t.order d newcomer_is_absent in
            none_if_thinking (changed_by t call.Join) w after ∙ sym (none_if_absent t w before)
        | inr other ↦ same_drawn t (changed_by t call.Join) w (state_in-append_other t.order d w other)
            (waits_same t (t.order ++ d ∷ []) (newcomer t) (λ v k. state_in-append_other t.order d v k) (λ a b ka kb. stands_before-append t.order d a b ka kb) w other
            (λ v k. false_from_ne_true (same_task (newcomer t) v) (λ same. (let gone : state_of t v ≡ None = ap (state_of t) (sym (same_task-true (newcomer t) v same)) ∙ newcomer_is_absent in let clash : false ≡ true = ap is_some (sym gone) ∙ (conflict_present t sound w v (in_conflict t w v k)).1 in cc))))
      ]

  -- a leave changes nothing that is drawn of anybody
  unchanged_leave : (x : Task) → state_of t x ≡ Some Thinking → kind_at (changed_by t (call.Leave x)) w ≡ kind_at t w
  unchanged_leave x thinks = elim (cases_Bool (same_task x w)) [
    | inl same ↦
        let is : x ≡ w = same_task-true x w same in
        let before : state_of t w ≡ Some Thinking = ap (state_of t) (sym is) ∙ thinks in
        let after : state_in (without x t.order) w ≡ None = ap (state_in (without x t.order)) (sym is) ∙ state_in-without_same x t.order in
        none_if_absent (changed_by t (call.Leave x)) w after ∙ sym (none_if_thinking t w before)
    | inr other ↦ same_drawn t (changed_by t (call.Leave x)) w (state_in-without_other x w t.order other)
        (waits-leave (keeps_waiting (without x t.order) w) (keeps_waiting t.order w) x w t.conflicts (rw thinks refl)
        (λ v k. keeps_same t (without x t.order) x (λ y ky. state_in-without_other x y t.order ky) (λ a b ka kb. stands_before-without x a b t.order ka kb) w v other k) other)
  ]

  -- a conflict changes what is drawn of its two tasks alone
  unchanged_conflict : (a b : Task) → list_any (same_task w) (a ∷ b ∷ []) ≡ false → kind_at (changed_by t (call.Conflict a b)) w ≡ kind_at t w
  unchanged_conflict a b away =
      let first = or_parts (same_task w a) (same_task w b || false) away in
      let second = or_parts (same_task w b) false first.1 in
      same_drawn t (changed_by t (call.Conflict a b)) w refl (ap (list_any (keeps_waiting t.order w)) (neighbours-append a b w t.conflicts first.0 second.0))

  -- and so does a separation
  unchanged_separate : (a b : Task) → list_any (same_task w) (a ∷ b ∷ []) ≡ false → kind_at (changed_by t (call.Separate a b)) w ≡ kind_at t w
  unchanged_separate a b away =
      let first = or_parts (same_task w a) (same_task w b || false) away in
      let second = or_parts (same_task w b) false first.1 in
      same_drawn t (changed_by t (call.Separate a b)) w refl (ap (list_any (keeps_waiting t.order w)) (neighbours-separate a b w t.conflicts first.0 second.0))

  -- x alone is in another state
  unchanged_state : (s new : State) (x : Task) → state_of t x ≡ Some s → list_any (same_task w) (beside t x) ≡ false → (next : Table) → next.order ≡ with_state new x t.order → next.conflicts ≡ t.conflicts → kind_at next w ≡ kind_at t w
  unchanged_state s new x here away next orders conflicts =
      let other = is_other t x w s here away in
      same_drawn t next w (ap (λ o. state_in o w) orders ∙ state_in-with_state_other new x w t.order other)
      (ap (λ o. list_any (keeps_waiting o w) (neighbours_of next w)) orders ∙ ap (λ cs. list_any (keeps_waiting (with_state new x t.order) w) (neighbours_in cs w)) conflicts
      ∙ waits_same t (with_state new x t.order) x (λ v k. state_in-with_state_other new x v t.order k) (λ a b ka kb. stands_before-with_state new x a b t.order) w other (apart_from t x w s here away))

  -- a finish changes what is drawn of its task and its neighbours alone
  unchanged_finish : (x : Task) → state_of t x ≡ Some Eating → list_any (same_task w) (beside t x) ≡ false → kind_at (changed_by t (call.Finish x)) w ≡ kind_at t w
  unchanged_finish x here away =
      let d : Diner = record { task = x; state = Thinking } in
      let other = is_other t x w Eating here away in
      same_drawn t (changed_by t (call.Finish x)) w (state_in-append_other (without x t.order) d w other ∙ state_in-without_other x w t.order other)
      (waits_same t (moved_last x t.order) x (λ v k. (state_in-append_other (without x t.order) d v k ∙ state_in-without_other x v t.order k)) (λ a b ka kb. (stands_before-append (without x t.order) d a b ka kb ∙ stands_before-without x a b t.order ka kb)) w other (apart_from t x w Eating here away))

-- whoever isn't looked at after an accepted call
pub unchanged_accepted : (t : Table) → IsSound t → (c : Call) → refusal_of t c ≡ None → (w : Task) → list_any (same_task w) (looked_at t c) ≡ false → kind_at (changed_by t c) w ≡ kind_at t w
unchanged_accepted t sound call.Join ok w away = unchanged_join t sound w
unchanged_accepted t sound (call.Leave x) ok w away = unchanged_leave t sound w x (found Thinking (state_of t x) ok)
unchanged_accepted t sound (call.Conflict a b) ok w away = unchanged_conflict t sound w a b away
unchanged_accepted t sound (call.Separate a b) ok w away = unchanged_separate t sound w a b away
unchanged_accepted t sound (call.Hungry x) ok w away = unchanged_state t sound w Thinking Hungry x (found Thinking (state_of t x) ok) away (changed_by t (call.Hungry x)) refl refl
unchanged_accepted t sound (call.Begin x) ok w away = unchanged_state t sound w Hungry Eating x (found Hungry (state_of t x) (or_else-None (refusal_unless Hungry (state_of t x)) _ ok).0) away (changed_by t (call.Begin x)) refl refl
unchanged_accepted t sound (call.Finish x) ok w away = unchanged_finish t sound w x (found Eating (state_of t x) ok) away
unchanged_accepted t sound (call.Withdraw x) ok w away = unchanged_state t sound w Hungry Thinking x (found Hungry (state_of t x) ok) away (changed_by t (call.Withdraw x)) refl refl

-- whoever isn't looked at after any call
pub unchanged : (t : Table) → IsSound t → (c : Call) (w : Task) → list_any (same_task w) (looked_at_by t c) ≡ false → kind_at (table_after_call t c) w ≡ kind_at t w
unchanged t sound c w = go (refusal_of t c) refl
  where
    go : (o : Option Refusal) → refusal_of t c ≡ o → list_any (same_task w) (looked_at_by t c) ≡ false → kind_at (table_after_call t c) w ≡ kind_at t w
    go None e away = rw e (unchanged_accepted t sound c e w (rw e at away))
    go (Some r) e away = rw e refl

-- ---- who is looked at is present

module _ (t : Table) (sound : IsSound t) (u : Task) where
  -- a neighbour of a task that is present is present, and so is the task
  present_beside : (x : Task) (s : State) → state_of t x ≡ Some s → list_any (same_task u) (beside t x) ≡ true → is_some (state_of t u) ≡ true
  present_beside x s here there =
      let split : (list_any (same_task u) (neighbours_of t x) || (same_task u x || false)) ≡ true = sym (list_any-append (same_task u) (neighbours_of t x) (x ∷ [])) ∙ (rw here at there) in
      elim (or_cases (list_any (same_task u) (neighbours_of t x)) (same_task u x || false) split) [
        | inl near ↦ (conflict_present t sound x u (in_conflict t x u near)).1
        | inr itself ↦ elim (or_cases (same_task u x) false itself) [
          | inl same ↦ ap (λ y. is_some (state_of t y)) (same_task-true u x same) ∙ ap is_some here
          | inr never ↦ absurd (let k : false ≡ true = never in cc)
        ]
      ]

  -- what is not none is some
  some_of : (o : Option State) → is_none o ≡ false → is_some o ≡ true
  some_of None k = absurd (let z : true ≡ false = k in cc)
  some_of (Some s) k = refl

  -- either of two tasks that are present is present
  present_pair : (a b : Task) → is_absent t a ≡ false → is_absent t b ≡ false → list_any (same_task u) (a ∷ b ∷ []) ≡ true → is_some (state_of t u) ≡ true
  present_pair a b here there h = elim (or_cases (same_task u a) (same_task u b || false) h) [
    | inl first ↦ ap (λ y. is_some (state_of t y)) (same_task-true u a first) ∙ some_of (state_of t a) here
    | inr later ↦ elim (or_cases (same_task u b) false later) [
      | inl second ↦ ap (λ y. is_some (state_of t y)) (same_task-true u b second) ∙ some_of (state_of t b) there
      | inr never ↦ absurd (let k : false ≡ true = never in cc)
    ]
  ]

  -- whom an accepted call has looked at is present
  present_accepted : (c : Call) → refusal_of t c ≡ None → list_any (same_task u) (looked_at t c) ≡ true → is_some (state_of t u) ≡ true
  present_accepted call.Join ok h = absurd (let k : false ≡ true = h in cc)
  present_accepted (call.Leave x) ok h = absurd (let k : false ≡ true = h in cc)
  present_accepted (call.Conflict a b) ok h =
      let first = passed (is_absent t a) Unknown _ ok in
      let second = passed (is_absent t b) Unknown _ first.1 in
      present_pair a b first.0 second.0 h
  present_accepted (call.Separate a b) ok h =
      let first = passed (is_absent t a) Unknown _ ok in
      let second = passed (is_absent t b) Unknown _ first.1 in
      present_pair a b first.0 second.0 h
  present_accepted (call.Hungry x) ok h = present_beside x Thinking (found Thinking (state_of t x) ok) h
  present_accepted (call.Begin x) ok h = present_beside x Hungry (found Hungry (state_of t x) (or_else-None (refusal_unless Hungry (state_of t x)) _ ok).0) h
  present_accepted (call.Finish x) ok h = present_beside x Eating (found Eating (state_of t x) ok) h
  present_accepted (call.Withdraw x) ok h = present_beside x Hungry (found Hungry (state_of t x) ok) h

  -- whoever is looked at after any call is present before it
  pub looked_at_present : (c : Call) → list_any (same_task u) (looked_at_by t c) ≡ true → is_some (state_of t u) ≡ true
  looked_at_present c = go (refusal_of t c) refl
    where
      go : (o : Option Refusal) → refusal_of t c ≡ o → list_any (same_task u) (looked_at_by t c) ≡ true → is_some (state_of t u) ≡ true
      go None e h = present_accepted c e (rw e at h)
      go (Some r) e h = absurd (let k : false ≡ true = rw e at h in cc)
