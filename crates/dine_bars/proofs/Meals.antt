-- The meals that are drawn are the begins that were granted: how many end by the looks at some tasks, and how many begin.
use Rattle.std.proofs.Common.{◌≡◌, ◌⊎◌, ℕ, zero, suc, ◌+◌, ◌<◌, Bool, true, false, not, ◌&&◌, ◌||◌, cond, List, [], ◌∷◌, ◌++◌, length, Option, Some, None, is_some, inl, inr, refl, sym, ap, ◌∙◌, subst, arith}
use Rattle.std.specs.Prelude.{◌==◌, slice_index_or}
use Rattle.std.specs.List.{list_any}
use Rattle.std.proofs.lemmas.Bool.{cases_Bool, and_right, ne_eqb, or_right}
use Rattle.std.proofs.lemmas.List.Sums.{sum_by-append}
use Rattle.dine_words.specs.declared.task.Task.{Task}
use Rattle.dine_words.specs.declared.task.State.{State}
use Rattle.dine_words.specs.declared.task.State.TheVariants.{Thinking, Hungry, Eating}
use Rattle.dine_words.specs.declared.call.Call.{Call}
use Rattle.dine_words.specs.declared.call.Call.TheVariants as call
use Rattle.dine_words.specs.declared.call.Refusal.{Refusal}
use Rattle.dine_words.specs.declared.call.Reply.{Reply}
use Rattle.dine_words.specs.declared.call.Reply.TheVariants as reply
use Rattle.dine_words.specs.declared.entry.Entry.{Entry}
use Rattle.dine_table.specs.Table.{Table, is_found, same_task, state_of, is_ready}
use Rattle.dine_table.specs.Calls.{newcomer, refusal_of, refusal_unless, reply_of, acceptance_of, table_after_call}
use Rattle.dine_table.specs.History.{IsLegalFrom, grants_meal, is_begin_of, table_from}
use Rattle.dine_words.specs.Waits.{is_done}
use Rattle.dine_table.specs.Sound.{IsSound}
use Rattle.dine_table.proofs.CallerLemmas.{found, or_else-None, same_task-refl, same_task-sym, same_task-true}
use Rattle.dine_journal.proofs.CallerLemmas.{state-changed, state_changed}
use Rattle.dine_bars.specs.declared.bar.BarKind.{BarKind}
use Rattle.dine_bars.specs.declared.bar.BarKind.TheVariants.{Meal, KeptWaiting, MayBegin}
use Rattle.dine_bars.specs.declared.bar.OpenBar.{OpenBar}
use Rattle.dine_bars.specs.declared.mark.Mark.{Mark}
use Rattle.dine_bars.specs.Bars.{kind_in, kind_at, same_kind, is_kind, is_meal_of, meals_drawn}
use Rattle.dine_bars.specs.Marks.{begun_of, begun_by, begun_by_look, ended_at, ended_by, ended_by_look, goes_on, last_marks, mark_of_done, marks_of_call}
use Rattle.dine_bars.proofs.Looks.{AreLooked, AreSeated, AreStanding, IsOf, kind_now, kind_of_bar, kind_of_other, kind_still, looked, looked_all, looked_stands, own_bar, same_kind-true}

-- ---- counts

-- 1 where it is so, and else 0
abbrev pub one_if : Bool → ℕ
one_if b = cond b 1 0

-- the bar that goes on is one of a meal of w
abbrev pub eats_now : Task → Option OpenBar → Bool
eats_now w o = is_kind Meal (kind_of_bar w o)

-- the meals of two runs of marks are those of both together
pub meals-append : (w : Task) (xs ys : List Mark) → meals_drawn (xs ++ ys) w ≡ meals_drawn xs w + meals_drawn ys w
meals-append w xs ys = sum_by-append (λ m. cond (is_meal_of w m) 1 0) xs ys

-- a fact and its opposite aren't both true
not_both : (b : Bool) → (b && not b) ≡ false
not_both true = refl
not_both false = refl

-- a bar that ends is a meal of w where it was one
ended-counts : (w : Task) (place : ℕ) (o : Option OpenBar) → meals_drawn (ended_at place o) w ≡ one_if (eats_now w o)
ended-counts w place None = refl
ended-counts w place (Some bar) = elim (cases_Bool (same_task bar.task w)) [
  | inl same ↦ rw same (plus_none (one_if (same_kind bar.kind Meal)))
  | inr other ↦ rw other (plus_none 0)
]
  where
    plus_none : (n : ℕ) → 0 + n ≡ n
    plus_none n = omega arith

-- ---- one look

-- a bar that ends is a meal's where another kind comes after it
ends_meal : (old new : BarKind) → same_kind new old ≡ false → (same_kind old Meal && not (same_kind new Meal)) ≡ same_kind old Meal
ends_meal Meal Meal h = absurd (let k : true ≡ false = h in cc)
ends_meal Meal KeptWaiting h = refl
ends_meal Meal MayBegin h = refl
ends_meal KeptWaiting new h = refl
ends_meal MayBegin new h = refl

-- the mark at a look is a meal of u that ends
look-counts : (place : ℕ) (u : Task) (o : Option OpenBar) (now : Option BarKind) → IsOf u place o → meals_drawn (cond (goes_on o now) [] (ended_at place o)) u ≡ one_if (eats_now u o && not (is_kind Meal now))
look-counts place u None None own = refl
look-counts place u None (Some kind) own = refl
look-counts place u (Some bar) None own =
    let mine : same_task bar.task u ≡ true = ap (λ x. same_task x u) (own bar refl).0 ∙ same_task-refl u in
    ended-counts u place (Some bar) ∙ rw mine (ap one_if (sym (and_one (same_kind bar.kind Meal))))
  where
    and_one : (b : Bool) → (b && true) ≡ b
    and_one true = refl
    and_one false = refl
look-counts place u (Some bar) (Some kind) own =
    let mine : same_task bar.task u ≡ true = ap (λ x. same_task x u) (own bar refl).0 ∙ same_task-refl u in
    elim (cases_Bool (same_kind kind bar.kind)) [
      | inl same ↦ rw (same, mine) (ap one_if (sym (ap (λ k. same_kind bar.kind Meal && not (same_kind k Meal)) (same_kind-true kind bar.kind same) ∙ not_both (same_kind bar.kind Meal))))
      | inr other ↦ rw other (ended-counts u place (Some bar) ∙ rw mine (ap one_if (sym (ends_meal bar.kind kind other))))
    ]

module _ (c : Call) (place : ℕ) (t next : Table) (slots : ℕ) (seated : AreSeated t slots) where
  -- the same at the bars of all slots, and of any task
  by_look-counts : (begun : List (Option OpenBar)) (stands : AreStanding t place begun) (every : length begun ≡ slots) (u : Task) (here : is_some (state_of t u) ≡ true) (w : Task)
      → meals_drawn (ended_by_look place next begun u) w ≡ one_if (eats_now w (begun_of begun w) && not (eats_now w (begun_of (begun_by_look c place next begun u) w)))
  by_look-counts begun stands every u here w = elim (cases_Bool (same_task u w)) [
    | inl same ↦ subst (λ x. meals_drawn (ended_by_look place next begun u) x ≡ one_if (eats_now x (begun_of begun x) && not (eats_now x (begun_of (begun_by_look c place next begun u) x)))) (same_task-true u w same) itself
    | inr other ↦ silent other ∙ ap one_if (sym (ap (λ k. eats_now w (begun_of begun w) && not (is_kind Meal k)) (kind_still c place t next slots seated begun stands every u here w other) ∙ not_both (eats_now w (begun_of begun w))))
  ]
    where
      own : IsOf u place (begun_of begun u)
      own = own_bar c place t next slots seated begun stands u here

      itself : meals_drawn (ended_by_look place next begun u) u ≡ one_if (eats_now u (begun_of begun u) && not (eats_now u (begun_of (begun_by_look c place next begun u) u)))
      itself = look-counts place u (begun_of begun u) (kind_at next u) own ∙ ap (λ k. one_if (eats_now u (begun_of begun u) && not (is_kind Meal k))) (sym (kind_now c place t next slots seated begun stands every u here))

      silent : same_task u w ≡ false → meals_drawn (ended_by_look place next begun u) w ≡ 0
      silent other = go (goes_on (begun_of begun u) (kind_at next u))
        where
          go : (b : Bool) → meals_drawn (cond b [] (ended_at place (begun_of begun u))) w ≡ 0
          go true = refl
          go false = ended-counts w place (begun_of begun u) ∙ ap (λ k. one_if (is_kind Meal k)) (kind_of_other u w other place (begun_of begun u) own)

  -- ---- looks at each of some tasks
  module _ (begun : List (Option OpenBar)) (stands : AreStanding t place begun) (every : length begun ≡ slots) (u : Task) (us : List Task) (here : (v : Task) → list_any (same_task v) (u ∷ us) ≡ true → is_some (state_of t v) ≡ true) (w : Task) where
    -- the first is present
    here_u : is_some (state_of t u) ≡ true
    here_u = here u (ap (λ b. b || list_any (same_task u) us) (same_task-refl u))

    -- and so are the others
    later : (v : Task) → list_any (same_task v) us ≡ true → is_some (state_of t v) ≡ true
    later v h = here v (or_right (same_task v u) (list_any (same_task v) us) h)

    -- the bars after the first look
    abbrev then_begun : List (Option OpenBar)
    then_begun = begun_by_look c place next begun u

    -- they stand
    then_stands : AreStanding t place then_begun
    then_stands = looked_stands c place t next slots seated begun stands every u here_u

    -- for each slot
    then_every : length then_begun ≡ slots
    then_every = looked_all c place t next slots seated begun stands every u here_u

    -- whether w eats before the looks, after the first, and after all
    abbrev at_first : Bool
    at_first = eats_now w (begun_of begun w)

    -- after the first
    abbrev then_so : Bool
    then_so = eats_now w (begun_of then_begun w)

    -- after all
    abbrev at_last : Bool
    at_last = eats_now w (begun_of (begun_by c place next then_begun us) w)

    -- what is known after the looks at the others
    rest : AreLooked c place t next slots seated then_begun us
    rest = looked c place t next slots seated then_begun then_stands then_every us later

    -- where the answers after the second look and the third are one, the meals of both add up
    late : (a b : Bool) → one_if (a && not b) + one_if (b && not b) ≡ one_if (a && not b)
    late true true = refl
    late true false = refl
    late false true = refl
    late false false = refl

    -- where those before the first and after it are one, they do too
    early : (a b : Bool) → one_if (a && not a) + one_if (a && not b) ≡ one_if (a && not b)
    early true true = refl
    early true false = refl
    early false true = refl
    early false false = refl

    -- whoever is looked at first does what the next table tells
    settled : same_task u w ≡ true → kind_of_bar w (begun_of then_begun w) ≡ kind_at next w
    settled same = subst (λ v. kind_of_bar v (begun_of then_begun v) ≡ kind_at next v) (same_task-true u w same) (kind_now c place t next slots seated begun stands every u here_u)

    -- and no later look changes that
    stays_so : same_task u w ≡ true → at_last ≡ then_so
    stays_so same = ap (is_kind Meal) (kinds_same (cases_Bool (list_any (same_task w) us)))
      where
        kinds_same : (list_any (same_task w) us ≡ true) ⊎ (list_any (same_task w) us ≡ false) → kind_of_bar w (begun_of (begun_by c place next then_begun us) w) ≡ kind_of_bar w (begun_of then_begun w)
        kinds_same (inl there) = rest.now w there ∙ sym (settled same)
        kinds_same (inr away) = rest.still w away

    -- the meals of the first look and those of the others are those of all
    joined : one_if (at_first && not then_so) + one_if (then_so && not at_last) ≡ one_if (at_first && not at_last)
    joined = elim (cases_Bool (same_task u w)) [
      | inl same ↦ subst (λ b. one_if (at_first && not b) + one_if (b && not at_last) ≡ one_if (at_first && not at_last)) (stays_so same) (late at_first at_last)
      | inr other ↦ subst (λ b. one_if (at_first && not b) + one_if (b && not at_last) ≡ one_if (at_first && not at_last)) (sym (ap (is_kind Meal) (kind_still c place t next slots seated begun stands every u here_u w other))) (early at_first at_last)
    ]

  -- they draw one meal of w where it ate before them and eats no more after them, and else none
  pub by_looks-count : (begun : List (Option OpenBar)) → AreStanding t place begun → length begun ≡ slots → (us : List Task) → ((u : Task) → list_any (same_task u) us ≡ true → is_some (state_of t u) ≡ true) → (w : Task)
      → meals_drawn (ended_by c place next begun us) w ≡ one_if (eats_now w (begun_of begun w) && not (eats_now w (begun_of (begun_by c place next begun us) w)))
  by_looks-count begun stands every [] here w = ap one_if (sym (not_both (eats_now w (begun_of begun w))))
  by_looks-count begun stands every (u ∷ us) here w =
      meals-append w (ended_by_look place next begun u) (ended_by c place next (then_begun begun stands every u us here w) us)
      ∙ ap (λ n. n + meals_drawn (ended_by c place next (then_begun begun stands every u us here w) us) w) (by_look-counts begun stands every u (here_u begun stands every u us here w) w)
      ∙ ap (λ n. one_if (at_first begun stands every u us here w && not (then_so begun stands every u us here w)) + n) (by_looks-count (then_begun begun stands every u us here w) (then_stands begun stands every u us here w) (then_every begun stands every u us here w) us (later begun stands every u us here w) w)
      ∙ joined begun stands every u us here w

-- ---- the bars that go on at the end

module _ (w : Task) (place : ℕ) where
  -- a bar at another slot draws no meal of w
  silent-elsewhere : (s : ℕ) → (s ≡ w.slot → ⊥) → (o : Option OpenBar) → ((bar : OpenBar) → o ≡ Some bar → bar.task.slot ≡ s) → meals_drawn (ended_at place o) w ≡ 0
  silent-elsewhere s apart None at = refl
  silent-elsewhere s apart (Some bar) at =
      let isnt : same_task bar.task w ≡ false = ap (λ b. b && (bar.task.born == w.born)) (ne_eqb bar.task.slot w.slot (λ e. apart (sym (at bar refl) ∙ e))) in
      ended-counts w place (Some bar) ∙ rw isnt refl

  -- nor do those behind its slot
  silent-behind : (bars : List (Option OpenBar)) (from : ℕ) → ((j : ℕ) (bar : OpenBar) → slice_index_or bars j None ≡ Some bar → bar.task.slot ≡ from + j) → w.slot < from → meals_drawn (last_marks place bars) w ≡ 0
  silent-behind [] from at less = refl
  silent-behind (o ∷ os) from at less =
      let first = silent-elsewhere from (λ e. omega (arith, e, less)) o (λ bar e. (let h = at zero bar e in omega (arith, h))) in
      let rest = silent-behind os (from + 1) (λ j bar e. (let h = at (suc j) bar e in omega (arith, h))) (omega (arith, less)) in
      meals-append w (ended_at place o) (last_marks place os) ∙ omega (arith, first, rest)

  -- the marks of the bars that go on count the meal of w, if it is one that goes on at its slot
  pub last-counts : (bars : List (Option OpenBar)) (from i : ℕ) → ((j : ℕ) (bar : OpenBar) → slice_index_or bars j None ≡ Some bar → bar.task.slot ≡ from + j) → w.slot ≡ from + i → meals_drawn (last_marks place bars) w ≡ one_if (eats_now w (slice_index_or bars i None))
  last-counts [] from i at here = refl
  last-counts (o ∷ os) from zero at here =
      let first = ended-counts w place o in
      let rest = silent-behind os (from + 1) (λ j bar e. (let h = at (suc j) bar e in omega (arith, h))) (omega (arith, here)) in
      meals-append w (ended_at place o) (last_marks place os) ∙ omega (arith, first, rest)
  last-counts (o ∷ os) from (suc i) at here =
      let first = silent-elsewhere from (λ e. omega (arith, e, here)) o (λ bar e. (let h = at zero bar e in omega (arith, h))) in
      let rest = last-counts os (from + 1) i (λ j bar e. (let h = at (suc j) bar e in omega (arith, h))) (omega (arith, here)) in
      meals-append w (ended_at place o) (last_marks place os) ∙ omega (arith, first, rest)

-- ---- what is drawn of a call beside bars is no meal

-- the mark of an accepted call is no meal
call-counts : (w : Task) (place : ℕ) (c : Call) → meals_drawn (mark_of_done place c) w ≡ 0
call-counts w place call.Join = refl
call-counts w place (call.Leave u) = refl
call-counts w place (call.Conflict u v) = refl
call-counts w place (call.Separate u v) = refl
call-counts w place (call.Hungry u) = refl
call-counts w place (call.Begin u) = refl
call-counts w place (call.Finish u) = refl
call-counts w place (call.Withdraw u) = refl

-- the mark of a call is no meal
pub marks_of_call-count : (w : Task) (place pass : ℕ) (c : Call) (r : Reply) → meals_drawn (marks_of_call place pass c r) w ≡ 0
marks_of_call-count w place pass c (reply.Joined u) = refl
marks_of_call-count w place pass c reply.Done = call-counts w place c
marks_of_call-count w place pass c (reply.Refused refusal) = refl

-- ---- which entries begin a meal

-- a meal is drawn of a task where it eats
meal-is : (t : Table) (w : Task) → is_kind Meal (kind_at t w) ≡ is_found Eating (state_of t w)
meal-is t w = go (is_ready t w) (state_of t w)
  where
    go : (b : Bool) (o : Option State) → is_kind Meal (kind_in b o) ≡ is_found Eating o
    go b None = refl
    go b (Some Thinking) = refl
    go true (Some Hungry) = refl
    go false (Some Hungry) = refl
    go b (Some Eating) = refl

-- no meal begins where a task is put in another state
other_state : (b : Bool) (s old : Option State) → is_found Eating s ≡ false → (not (is_found Eating old) && is_found Eating (cond b s old)) ≡ false
other_state true s old h = ap (λ x. not (is_found Eating old) && x) h ∙ and_right (not (is_found Eating old)) false refl
other_state false s old h = not_and (is_found Eating old)
  where
    not_and : (b : Bool) → (not b && b) ≡ false
    not_and true = refl
    not_and false = refl

module _ (t : Table) (w : Task) where
  -- an accepted call begins a meal of w exactly where it is its begin
  begins_accepted : (c : Call) → refusal_of t c ≡ None → (not (is_found Eating (state_of t w)) && is_found Eating (state_changed t c w (state_of t w))) ≡ (is_begin_of w c && is_done (acceptance_of t c))
  begins_accepted call.Join ok = other_state (same_task (newcomer t) w) (Some Thinking) (state_of t w) refl
  begins_accepted (call.Leave x) ok = other_state (same_task x w) None (state_of t w) refl
  begins_accepted (call.Conflict a b) ok = other_state false None (state_of t w) refl
  begins_accepted (call.Separate a b) ok = other_state false None (state_of t w) refl
  begins_accepted (call.Hungry x) ok = other_state (same_task x w) (Some Hungry) (state_of t w) refl
  begins_accepted (call.Begin x) ok = elim (cases_Bool (same_task x w)) [
    | inl same ↦
        let hungry : state_of t w ≡ Some Hungry = ap (state_of t) (sym (same_task-true x w same)) ∙ found Hungry (state_of t x) (or_else-None (refusal_unless Hungry (state_of t x)) _ ok).0 in
        let flipped : same_task w x ≡ true = same_task-sym w x ∙ same in
        rw (hungry, same, flipped) refl
    | inr other ↦
        let flipped : same_task w x ≡ false = same_task-sym w x ∙ other in
        rw (other, flipped) (other_state false None (state_of t w) refl)
  ]
  begins_accepted (call.Finish x) ok = other_state (same_task x w) (Some Thinking) (state_of t w) refl
  begins_accepted (call.Withdraw x) ok = other_state (same_task x w) (Some Thinking) (state_of t w) refl

  -- a meal begins exactly where one is granted
  pub begins_granted : IsSound t → (e : Entry) → e.reply ≡ reply_of t e.call → (not (is_kind Meal (kind_at t w)) && is_kind Meal (kind_at (table_after_call t e.call) w)) ≡ grants_meal w e
  begins_granted sound e said =
      ap (λ b. not b && is_kind Meal (kind_at (table_after_call t e.call) w)) (meal-is t w)
      ∙ ap (λ b. not (is_found Eating (state_of t w)) && b) (meal-is (table_after_call t e.call) w)
      ∙ go (refusal_of t e.call) refl
      ∙ ap (λ r. is_begin_of w e.call && is_done r) (sym said)
    where
      go : (o : Option Refusal) → refusal_of t e.call ≡ o → (not (is_found Eating (state_of t w)) && is_found Eating (state_of (table_after_call t e.call) w)) ≡ (is_begin_of w e.call && is_done (reply_of t e.call))
      go None k = rw k (ap (λ o. not (is_found Eating (state_of t w)) && is_found Eating o) (state-changed t sound e.call k w) ∙ begins_accepted e.call k)
      go (Some r) k = rw k (other_state false None (state_of t w) refl ∙ sym (and_right (is_begin_of w e.call) false refl))

-- so the meals that end and that go on grow by those that are granted
pub meals-balance : (x y : Bool) → one_if (x && not y) + one_if y ≡ one_if x + one_if (not x && y)
meals-balance true true = refl
meals-balance true false = refl
meals-balance false true = refl
meals-balance false false = refl

-- a history is legal up to its last entry, and there
pub legal-split : (t : Table) (history : List Entry) (e : Entry) → IsLegalFrom t (history ++ e ∷ []) → IsLegalFrom t history × (e.reply ≡ reply_of (table_from t history) e.call)
legal-split t [] e legal = (tt, legal.0)
legal-split t (x ∷ xs) e legal = let rest = legal-split (table_after_call t x.call) xs e legal.1 in ((legal.0, rest.0), rest.1)
