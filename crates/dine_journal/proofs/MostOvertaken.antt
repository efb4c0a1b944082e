-- The most that anybody is overtaken: once where a meal begins beside a hungry neighbour, and else never.
use Rattle.std.proofs.Common.{◌≡◌, ℕ, ◌≤◌, Bool, true, false, ◌&&◌, ◌||◌, cond, List, [], ◌∷◌, Option, Some, None, is_some, inl, inr, refl, sym, ap, ◌∙◌, arith}
use Rattle.std.specs.List.{Contains, list_any, cons_option}
use Rattle.std.proofs.lemmas.Map.Views.{Contains-from_any}
use Rattle.std.proofs.lemmas.Bool.{cases_Bool, cases_lt, and_parts, and_from, or_cases, or_parts, or_from, or_left, or_right, false_from_ne_true}
use Rattle.dine_words.specs.declared.task.Task.{Task}
use Rattle.dine_words.specs.declared.task.State.TheVariants.{Hungry}
use Rattle.dine_words.specs.declared.call.Call.{Call}
use Rattle.dine_words.specs.declared.call.Call.TheVariants as call
use Rattle.dine_words.specs.declared.call.Reply.{Reply}
use Rattle.dine_words.specs.declared.entry.Entry.{Entry}
use Rattle.dine_words.specs.declared.limits.Limits.{Limits}
use Rattle.dine_table.specs.Table.{Table, opening_table, same_task, is_in, is_between, state_of, are_in_conflict, neighbours_in, neighbours_of}
use Rattle.dine_table.specs.Calls.{reply_of, table_after_call}
use Rattle.dine_table.specs.History.{IsLegalFrom, IsLegal, overtaken, is_begin_of}
use Rattle.dine_words.specs.Waits.{is_done}
use Rattle.dine_table.specs.Sound.{IsSound}
use Rattle.dine_table.proofs.CallerLemmas.{conflict_differs, conflict_either_way, conflict_present, neighbour_passes, overtaken-le, same_task-refl, same_task-true, sound_after_call, sound_at_opening}
use Rattle.dine_journal.specs.Overtakes.{name_given, joined_tasks, greatest_of, most_overtaken}
use Rattle.dine_journal.specs.Overtaking.{overtakes_at, begins_beside_hungry, overtakes_somebody, some_entry}
use Rattle.dine_journal.proofs.StateChanges.{present_before}
use Rattle.dine_journal.proofs.OvertakenOnce.{overtaken_at, overtaken-is}

-- ---- the greatest

-- where no value is more than some bound, the greatest isn't
greatest_of-le : {X : Type 0} (f : X → ℕ) (most : ℕ) (xs : List X) → ((x : X) → f x ≤ most) → greatest_of f xs ≤ most
greatest_of-le f most [] h = omega arith
greatest_of-le f most (x ∷ xs) h =
    let here : f x ≤ most = h x in
    let rest : greatest_of f xs ≤ most = greatest_of-le f most xs h in
    omega arith

-- the greatest value is no less than that of a task of the list
greatest_of-ge : (f : Task → ℕ) (u : Task) (xs : List Task) → list_any (same_task u) xs ≡ true → f u ≤ greatest_of f xs
greatest_of-ge f u [] h = absurd (let k : false ≡ true = h in cc)
greatest_of-ge f u (x ∷ xs) h = elim (or_cases (same_task u x) (list_any (same_task u) xs) h) [
  | inl here ↦ let same : f u ≡ f x = ap f (same_task-true u x here) in omega arith
  | inr later ↦ let rest : f u ≤ greatest_of f xs = greatest_of-ge f u xs later in omega arith
]

-- ---- a meal beside a hungry neighbour

-- some neighbour passes the test
some_beside : (p : Task → Bool) (v : Task) (cs : List (Task × Task)) → list_any p (neighbours_in cs v) ≡ true → (u : Task) × (p u ≡ true) × (list_any (is_between v u) cs ≡ true)
some_beside p v [] h = absurd (let k : false ≡ true = h in cc)
some_beside p v (c ∷ cs) h = elim (cases_Bool (same_task v c.0)) [
  | inl first ↦ elim (or_cases (p c.1) (list_any p (neighbours_in cs v)) (rw first at h)) [
    | inl here ↦ (c.1, here, rw (first, same_task-refl c.1) refl)
    | inr later ↦ past (some_beside p v cs later)
  ]
  | inr not_first ↦ elim (cases_Bool (same_task v c.1)) [
    | inl second ↦ elim (or_cases (p c.0) (list_any p (neighbours_in cs v)) (rw (not_first, second) at h)) [
      | inl here ↦ (c.0, here, or_left (is_between v c.0 c) (list_any (is_between v c.0) cs) (or_right (same_task v c.0 && same_task c.0 c.1) (same_task v c.1 && same_task c.0 c.0) (and_from (same_task v c.1) (same_task c.0 c.0) second (same_task-refl c.0))))
      | inr later ↦ past (some_beside p v cs later)
    ]
    | inr not_second ↦ past (some_beside p v cs (rw (not_first, not_second) at h))
  ]
]
  where
    past : (u : Task) × (p u ≡ true) × (list_any (is_between v u) cs ≡ true) → (u : Task) × (p u ≡ true) × (list_any (is_between v u) (c ∷ cs) ≡ true)
    past (u, h, apart) = (u, h, or_right (is_between v u c) (list_any (is_between v u) cs) apart)

-- whoever begins beside the hungry overtakes one of them
overtaken_beside : (t : Table) (c : Call) (r : Reply) → begins_beside_hungry t c r ≡ true → (u : Task) × (v : Task) × (((is_begin_of v c && is_done r) && (is_in Hungry t.order u && are_in_conflict t u v)) ≡ true)
overtaken_beside t (call.Begin v) r h =
    let parts = and_parts (is_done r) (list_any (is_in Hungry t.order) (neighbours_of t v)) h in
    go parts.0 (some_beside (is_in Hungry t.order) v t.conflicts parts.1)
  where
    go : is_done r ≡ true → (u : Task) × (is_in Hungry t.order u ≡ true) × (list_any (is_between v u) t.conflicts ≡ true) → (u : Task) × (w : Task) × (((same_task w v && is_done r) && (is_in Hungry t.order u && are_in_conflict t u w)) ≡ true)
    go granted (u, hungry, apart) =
        let apart' : are_in_conflict t u v ≡ true = conflict_either_way u v t.conflicts ∙ apart in
        (u, v, and_from (same_task v v && is_done r) (is_in Hungry t.order u && are_in_conflict t u v) (and_from (same_task v v) (is_done r) (same_task-refl v) granted) (and_from (is_in Hungry t.order u) (are_in_conflict t u v) hungry apart'))
overtaken_beside t c r h = absurd (let k : false ≡ true = h in cc)

-- whoever overtakes another begins beside the hungry
beside_overtaken : (t : Table) (u v : Task) (c : Call) (r : Reply) → IsSound t → ((is_begin_of v c && is_done r) && (is_in Hungry t.order u && are_in_conflict t u v)) ≡ true → begins_beside_hungry t c r ≡ true
beside_overtaken t u v (call.Begin w) r sound h =
    let parts = and_parts (same_task v w && is_done r) (is_in Hungry t.order u && are_in_conflict t u v) h in
    let begins = and_parts (same_task v w) (is_done r) parts.0 in
    let beside = and_parts (is_in Hungry t.order u) (are_in_conflict t u v) parts.1 in
    let apart : are_in_conflict t u w ≡ true = ap (are_in_conflict t u) (sym (same_task-true v w begins.0)) ∙ beside.1 in
    let differ : same_task u w ≡ false = false_from_ne_true (same_task u w) (λ e. conflict_differs t sound u w apart (same_task-true u w e)) in
    elim (cases_Bool (list_any (is_in Hungry t.order) (neighbours_of t w))) [
      | inl some ↦ rw (begins.1, some) refl
      | inr none ↦ absurd (let k : true ≡ false = sym beside.0 ∙ neighbour_passes (is_in Hungry t.order) u w t.conflicts differ apart none in cc)
    ]
beside_overtaken t u v c r sound h = absurd (let k : false ≡ true = h in cc)

-- ---- along a history

-- u is present, or joins
abbrev IsKnown : Table → List Entry → Task → Type 0
IsKnown t es u = (is_some (state_of t u) || list_any (same_task u) (joined_tasks es)) ≡ true

-- whoever is known after an entry was known before, or joins by it
known_before : (t : Table) (u : Task) (e : Entry) (es : List Entry) → IsSound t → e.reply ≡ reply_of t e.call → IsKnown (table_after_call t e.call) es u → IsKnown t (e ∷ es) u
known_before t u e es sound said h = elim (or_cases (is_some (state_of (table_after_call t e.call) u)) (list_any (same_task u) (joined_tasks es)) h) [
  | inl present ↦ elim (present_before t sound u e said present) [
    | inl was ↦ or_left (is_some (state_of t u)) (list_any (same_task u) (joined_tasks (e ∷ es))) was
    | inr joined ↦ or_right (is_some (state_of t u)) (list_any (same_task u) (joined_tasks (e ∷ es))) (named (name_given e.reply) (joined_tasks es) (ap name_given joined))
  ]
  | inr later ↦ or_right (is_some (state_of t u)) (list_any (same_task u) (joined_tasks (e ∷ es))) (behind (name_given e.reply) (joined_tasks es) later)
]
  where
    named : (o : Option Task) (rest : List Task) → o ≡ Some u → list_any (same_task u) (cons_option o rest) ≡ true
    named None rest k = absurd (let w : None ≡ Some u = k in cc)
    named (Some x) rest k = let same : x ≡ u = (let w : Some x ≡ Some u = k in cc) in or_left (same_task u x) (list_any (same_task u) rest) (ap (same_task u) same ∙ same_task-refl u)

    behind : (o : Option Task) (rest : List Task) → list_any (same_task u) rest ≡ true → list_any (same_task u) (cons_option o rest) ≡ true
    behind None rest k = k
    behind (Some x) rest k = or_right (same_task u x) (list_any (same_task u) rest) k

-- who overtakes and who is overtaken are known, and are two
record AreKnown (t : Table) (es : List Entry) (u v : Task) : Type 0 where
  pub known : IsKnown t es u
  pub other_known : IsKnown t es v
  pub differ : u ≡ v → ⊥

-- where u is overtaken by v, both are known
overtaken_known : (t : Table) (es : List Entry) (u v : Task) → IsSound t → IsLegalFrom t es → some_entry (overtakes_at u v) t es ≡ true → AreKnown t es u v
overtaken_known t [] u v sound legal h = absurd (let k : false ≡ true = h in cc)
overtaken_known t (e ∷ es) u v sound legal h =
    let next = table_after_call t e.call in
    let sound' = sound_after_call t e.call sound in
    elim (or_cases (overtakes_at u v next e) (some_entry (overtakes_at u v) next es) h) [
      | inl here ↦
          let p = overtaken_at u v t e here in
          let present = conflict_present next sound' u v p.apart in
          record {
            known = known_before t u e es sound legal.0 (or_left (is_some (state_of next u)) (list_any (same_task u) (joined_tasks es)) present.0);
            other_known = known_before t v e es sound legal.0 (or_left (is_some (state_of next v)) (list_any (same_task v) (joined_tasks es)) present.1);
            differ = conflict_differs next sound' u v p.apart;
          }
      | inr later ↦
          let p = overtaken_known next es u v sound' legal.1 later in
          record {
            known = known_before t u e es sound legal.0 p.known;
            other_known = known_before t v e es sound legal.0 p.other_known;
            differ = p.differ;
          }
    ]

-- where somebody is overtaken, some task is by some other
some_pair : (t : Table) (es : List Entry) → some_entry overtakes_somebody t es ≡ true → (u : Task) × (v : Task) × (some_entry (overtakes_at u v) t es ≡ true)
some_pair t [] h = absurd (let k : false ≡ true = h in cc)
some_pair t (e ∷ es) h =
    let next = table_after_call t e.call in
    elim (or_cases (overtakes_somebody next e) (some_entry overtakes_somebody next es) h) [
      | inl here ↦ let (u, v, found) = overtaken_beside next e.call e.reply here in (u, v, or_left (overtakes_at u v next e) (some_entry (overtakes_at u v) next es) found)
      | inr later ↦ let (u, v, found) = some_pair next es later in (u, v, or_right (overtakes_at u v next e) (some_entry (overtakes_at u v) next es) found)
    ]

-- where nobody is overtaken, no task is by any other
no_pair : (t : Table) (es : List Entry) (u v : Task) → IsSound t → some_entry overtakes_somebody t es ≡ false → some_entry (overtakes_at u v) t es ≡ false
no_pair t [] u v sound h = refl
no_pair t (e ∷ es) u v sound h =
    let next = table_after_call t e.call in
    let sound' = sound_after_call t e.call sound in
    let parts = or_parts (overtakes_somebody next e) (some_entry overtakes_somebody next es) h in
    or_from (overtakes_at u v next e) (some_entry (overtakes_at u v) next es)
    (false_from_ne_true (overtakes_at u v next e) (λ k. (let w : true ≡ false = sym (beside_overtaken next u v e.call e.reply sound' k) ∙ parts.0 in cc)))
    (no_pair next es u v sound' parts.1)

-- ---- in a legal history

-- nobody is overtaken more than once
pub most_overtaken-le : (limits : Limits) (history : List Entry) → IsLegal limits history → most_overtaken limits history ≤ 1
most_overtaken-le limits history legal =
    let tasks = joined_tasks history in
    greatest_of-le _ 1 tasks (λ u. greatest_of-le (overtaken limits history u) 1 tasks (λ v. overtaken-le limits history u v legal))

-- the most is 1 where a meal begins beside a hungry neighbour, and else 0
pub most_overtaken-is : (limits : Limits) (history : List Entry) → IsLegal limits history → most_overtaken limits history ≡ cond (some_entry overtakes_somebody (opening_table limits) history) 1 0
most_overtaken-is limits history legal = elim (cases_Bool (some_entry overtakes_somebody (opening_table limits) history)) [
  | inl some ↦
      let tasks = joined_tasks history in
      let (u, v, found) = some_pair (opening_table limits) history some in
      let p = overtaken_known (opening_table limits) history u v (sound_at_opening limits) legal found in
      let by_u : ℕ = greatest_of (overtaken limits history u) tasks in
      let pair : overtaken limits history u v ≡ 1 = overtaken-is limits history u v legal ∙ rw found refl in
      let here : overtaken limits history u v ≤ by_u = greatest_of-ge (overtaken limits history u) v tasks p.other_known in
      let there : by_u ≤ most_overtaken limits history = greatest_of-ge (λ x. greatest_of (overtaken limits history x) tasks) u tasks p.known in
      let most : most_overtaken limits history ≤ 1 = most_overtaken-le limits history legal in
      let one : most_overtaken limits history ≡ 1 = omega arith in
      rw some one
  | inr none ↦
      let tasks = joined_tasks history in
      let nothing : (u v : Task) → overtaken limits history u v ≤ 0 = λ u v. at_most_none (overtaken-is limits history u v legal ∙ rw (no_pair (opening_table limits) history u v (sound_at_opening limits) none) refl) in
      let most : most_overtaken limits history ≤ 0 = greatest_of-le _ 0 tasks (λ u. greatest_of-le (overtaken limits history u) 0 tasks (nothing u)) in
      let zero_most : most_overtaken limits history ≡ 0 = omega arith in
      rw none zero_most
]
  where
    at_most_none : {n : ℕ} → n ≡ 0 → n ≤ 0
    at_most_none h = omega arith

-- u is overtaken by v only where v overtakes it somewhere
overtaken-somewhere : (limits : Limits) (history : List Entry) (u v : Task) → IsLegal limits history → 1 ≤ overtaken limits history u v → some_entry (overtakes_at u v) (opening_table limits) history ≡ true
overtaken-somewhere limits history u v legal h = elim (cases_Bool (some_entry (overtakes_at u v) (opening_table limits) history)) [
  | inl some ↦ some
  | inr none ↦ absurd (let nothing : overtaken limits history u v ≡ 0 = overtaken-is limits history u v legal ∙ rw none refl in omega arith)
]

-- where u is overtaken by v from the opening on, both have joined by then
overtaken_joined : (limits : Limits) (history : List Entry) (u v : Task) → IsLegal limits history → 1 ≤ overtaken limits history u v → AreKnown (opening_table limits) history u v
overtaken_joined limits history u v legal h = overtaken_known (opening_table limits) history u v (sound_at_opening limits) legal (overtaken-somewhere limits history u v legal h)

-- nobody is overtaken by anybody more often than the most
pub overtaken-le-most : (limits : Limits) (history : List Entry) (u v : Task) → IsLegal limits history → overtaken limits history u v ≤ most_overtaken limits history
overtaken-le-most limits history u v legal = elim (cases_lt 0 (overtaken limits history u v)) [
  | inl some ↦
      let tasks = joined_tasks history in
      let p = overtaken_joined limits history u v legal (omega arith) in
      let by_u : ℕ = greatest_of (overtaken limits history u) tasks in
      let here : overtaken limits history u v ≤ by_u = greatest_of-ge (overtaken limits history u) v tasks p.other_known in
      let there : by_u ≤ most_overtaken limits history = greatest_of-ge (λ x. greatest_of (overtaken limits history x) tasks) u tasks p.known in
      omega arith
  | inr none ↦ omega arith
]

-- whoever is overtaken has joined, and so has the other
pub overtaken-joined : (limits : Limits) (history : List Entry) (u v : Task) → IsLegal limits history → 1 ≤ overtaken limits history u v → Contains (joined_tasks history) u × Contains (joined_tasks history) v
overtaken-joined limits history u v legal h =
    let p = overtaken_joined limits history u v legal h in
    (Contains-from_any same_task-true u (joined_tasks history) p.known, Contains-from_any same_task-true v (joined_tasks history) p.other_known)

-- nobody is overtaken by itself
pub overtaken-another : (limits : Limits) (history : List Entry) (u v : Task) → IsLegal limits history → 1 ≤ overtaken limits history u v → u ≡ v → ⊥
overtaken-another limits history u v legal h = (overtaken_joined limits history u v legal h).differ
