-- What is known of the bars that go on once an accepted call is made, before anyone is looked at.
use Rattle.std.proofs.Common.{◌≡◌, ℕ, true, false, List, [], ◌∷◌, Option, Some, None, is_some, inl, inr, refl, sym, ap, ◌∙◌, subst}
use Rattle.std.specs.List.{AllByRecursion}
use Rattle.std.proofs.lemmas.Bool.{cases_Bool}
use Rattle.dine_words.specs.declared.limits.Limits.{Limits}
use Rattle.dine_words.specs.declared.task.Task.{Task}
use Rattle.dine_words.specs.declared.task.State.{State}
use Rattle.dine_words.specs.declared.task.State.TheVariants.{Thinking, Hungry, Eating}
use Rattle.dine_words.specs.declared.call.Call.{Call}
use Rattle.dine_words.specs.declared.call.Call.TheVariants as call
use Rattle.dine_table.specs.Table.{Table, same_task, state_in, state_of, neighbours_of}
use Rattle.dine_table.specs.Calls.{refusal_of, refusal_unless, changed_by, table_after_call, with_state, without, moved_last}
use Rattle.dine_table.specs.Sound.{IsSound}
use Rattle.dine_table.proofs.CallerLemmas.{found, or_else-None, same_task-true, sound_after_call, state_in-append_other, state_in-append_same, state_in-with_state_other, state_in-with_state_same, state_in-without_other, state_in-without_same}
use Rattle.dine_bars.specs.declared.bar.BarKind.{BarKind}
use Rattle.dine_bars.specs.declared.bar.BarKind.TheVariants.{Meal, KeptWaiting, MayBegin}
use Rattle.dine_bars.specs.declared.bar.OpenBar.{OpenBar}
use Rattle.dine_bars.specs.Bars.{kind_at}
use Rattle.dine_bars.specs.Begun.{AreCalmAfter, AreCalmBut, AreKept, AreToldBut, AreTold, SlotsBelow}
use Rattle.dine_bars.specs.Marks.{LooksAt, LooksAtEach, begun_of, beside, goes_on, looked_at, looked_at_by}
use Rattle.dine_bars.specs.declared.mark.Mark.{Mark}
use Rattle.dine_bars.proofs.Beside.{IsBeside, beside-is, neighbours_beside}
use Rattle.dine_bars.proofs.Calm.{calm_begin, calm_finish, calm_hungry, calm_withdraw, hungry_if}
use Rattle.dine_bars.proofs.Looking.{and_one_more, none_looked, told-goes_on}
use Rattle.dine_bars.proofs.Told.{are_seated, below_after_call}

-- ---- what a call leaves that moves one task alone

-- all but one are in the states that they were in, and that one is present
record Moves (t next : Table) (x : Task) : Type 0 where
  states : (w : Task) → same_task x w ≡ false → state_of next w ≡ state_of t w
  here : is_some (state_of next x) ≡ true

module _ (t : Table) (x : Task) where
  -- a call that gives one task another state moves it alone
  moves_state : (s : State) (next : Table) → next.order ≡ with_state s x t.order → is_some (state_of t x) ≡ true → Moves t next x
  moves_state s next order here = record {
    states = λ w other. ap (λ o. state_in o w) order ∙ state_in-with_state_other s x w t.order other;
    here = ap (λ o. is_some (state_in o x)) order ∙ ap is_some (state_in-with_state_same s x t.order here);
  }

  -- and so does one that puts it last, thinking
  moves_last : (next : Table) → next.order ≡ moved_last x t.order → Moves t next x
  moves_last next order = record {
    states = λ w other. ap (λ o. state_in o w) order ∙ state_in-append_other (without x t.order) (record { task = x; state = Thinking }) w other ∙ state_in-without_other x w t.order other;
    here = ap (λ o. is_some (state_in o x)) order ∙ ap is_some (state_in-append_same (without x t.order) (record { task = x; state = Thinking }) (state_in-without_same x t.order));
  }

module _ (t next : Table) (x : Task) (moves : Moves t next x) (limits : next.limits ≡ t.limits) (sound : IsSound next) (below : SlotsBelow next.limits.tasks next.order) (place : ℕ) (begun : List (Option OpenBar)) (told : AreTold t place begun) where
  -- the bars stand at the slots of tasks that are present, as they did
  kept : AreKept next place begun
  kept = record {
    sound = sound;
    seated = are_seated next sound below;
    stand = λ s bar at. (let stands = told.stand s bar at in (stands.0, still bar.task stands.1, stands.2));
    all = told.all ∙ ap (λ (l : Limits). l.tasks) (sym limits);
  }
    where
      still : (w : Task) → is_some (state_of t w) ≡ true → is_some (state_of next w) ≡ true
      still w there = elim (cases_Bool (same_task x w)) [
        | inl same ↦ ap (λ y. is_some (state_of next y)) (sym (same_task-true x w same)) ∙ moves.here
        | inr other ↦ ap is_some (moves.states w other) ∙ there
      ]

  -- bars of others that are of another kind than the one that the call may change are what the table tells
  calm_but : (kind : BarKind) → (kind ≡ Meal → ⊥) → ((w : Task) → same_task x w ≡ false → (kind_at t w ≡ Some kind → ⊥) → kind_at next w ≡ kind_at t w) → AreCalmBut next x kind place begun
  calm_but kind no_meal calm = record {
    kept = kept;
    here = moves.here;
    calm = λ w other. record {
      others = λ unlike. told.kinds w ∙ sym (calm w other (λ k. unlike (told.kinds w ∙ k)));
      hungry = λ like. moves.states w other ∙ hungry_if t w kind no_meal (sym (told.kinds w) ∙ like);
    };
  }

  -- and all of them are, where it changes none
  told_but : ((w : Task) → same_task x w ≡ false → kind_at next w ≡ kind_at t w) → AreToldBut next x place begun
  told_but same = record { kept = kept; here = moves.here; told = λ w other. told.kinds w ∙ sym (same w other) }

-- ---- after each accepted call

module _ (t : Table) (sound : IsSound t) (place : ℕ) (begun : List (Option OpenBar)) (told : AreTold t place begun) where
  -- what is known of the bars before anyone is looked at
  pub calm_after : (c : Call) → refusal_of t c ≡ None → AreCalmAfter c (changed_by t c) place begun
  calm_after c ok = go c ok (subst IsSound (after c ok) (sound_after_call t c sound)) (subst (λ n. SlotsBelow n.limits.tasks n.order) (after c ok) (below_after_call t c told.below))
    where
      after : (c : Call) → refusal_of t c ≡ None → table_after_call t c ≡ changed_by t c
      after c ok = rw ok refl

      go : (c : Call) → refusal_of t c ≡ None → IsSound (changed_by t c) → SlotsBelow (changed_by t c).limits.tasks (changed_by t c).order → AreCalmAfter c (changed_by t c) place begun
      go call.Join ok s b = tt
      go (call.Leave x) ok s b = tt
      go (call.Conflict x y) ok s b = tt
      go (call.Separate x y) ok s b = tt
      go (call.Hungry x) ok s b =
          let here = found Thinking (state_of t x) ok in
          calm_but t (changed_by t (call.Hungry x)) x (moves_state t x Hungry (changed_by t (call.Hungry x)) refl (ap is_some here)) refl s b place begun told MayBegin (λ e. (let k : MayBegin ≡ Meal = e in cc)) (λ w other. calm_hungry t x w other here)
      go (call.Begin x) ok s b =
          let here = found Hungry (state_of t x) (or_else-None (refusal_unless Hungry (state_of t x)) _ ok).0 in
          told_but t (changed_by t (call.Begin x)) x (moves_state t x Eating (changed_by t (call.Begin x)) refl (ap is_some here)) refl s b place begun told (λ w other. calm_begin t x w other sound ok)
      go (call.Finish x) ok s b =
          calm_but t (changed_by t (call.Finish x)) x (moves_last t x (changed_by t (call.Finish x)) refl) refl s b place begun told KeptWaiting (λ e. (let k : KeptWaiting ≡ Meal = e in cc)) (λ w other. calm_finish t x w other)
      go (call.Withdraw x) ok s b =
          let here = found Hungry (state_of t x) ok in
          calm_but t (changed_by t (call.Withdraw x)) x (moves_state t x Thinking (changed_by t (call.Withdraw x)) refl (ap is_some here)) refl s b place begun told KeptWaiting (λ e. (let k : KeptWaiting ≡ Meal = e in cc)) (λ w other. calm_withdraw t x w other here)

-- whom to look at is the same by the table after an accepted call
pub looked_at_after : (t : Table) (c : Call) → refusal_of t c ≡ None → looked_at (changed_by t c) c ≡ looked_at t c
looked_at_after t call.Join ok = refl
looked_at_after t (call.Leave x) ok = refl
looked_at_after t (call.Conflict x y) ok = refl
looked_at_after t (call.Separate x y) ok = refl
looked_at_after t (call.Hungry x) ok =
    let here = ap is_some (found Thinking (state_of t x) ok) in
    beside-is (changed_by t (call.Hungry x)) x (moves_state t x Hungry (changed_by t (call.Hungry x)) refl here).here ∙ sym (beside-is t x here)
looked_at_after t (call.Begin x) ok =
    let here = ap is_some (found Hungry (state_of t x) (or_else-None (refusal_unless Hungry (state_of t x)) _ ok).0) in
    beside-is (changed_by t (call.Begin x)) x (moves_state t x Eating (changed_by t (call.Begin x)) refl here).here ∙ sym (beside-is t x here)
looked_at_after t (call.Finish x) ok =
    let here = ap is_some (found Eating (state_of t x) ok) in
    beside-is (changed_by t (call.Finish x)) x (moves_last t x (changed_by t (call.Finish x)) refl).here ∙ sym (beside-is t x here)
looked_at_after t (call.Withdraw x) ok =
    let here = ap is_some (found Hungry (state_of t x) ok) in
    beside-is (changed_by t (call.Withdraw x)) x (moves_state t x Thinking (changed_by t (call.Withdraw x)) refl here).here ∙ sym (beside-is t x here)

-- ---- looks at a task and its neighbours

module _ (c : Call) (place : ℕ) (t : Table) (u : Task) where
  -- looks at the neighbours, and then one at the task
  pub looks_around : is_some (state_of t u) ≡ true → (first begun begun' : List (Option OpenBar)) (before marks marks' : List Mark) → LooksAtEach c place t (neighbours_of t u) first begun before marks → LooksAt c place t u begun begun' marks marks' → LooksAtEach c place t (beside t u) first begun' before marks'
  looks_around here first begun begun' before marks marks' some one =
      subst (λ us. LooksAtEach c place t us first begun' before marks') (sym (beside-is t u here)) (and_one_more c place t (neighbours_of t u) u first begun begun' before marks marks' some one)

  module _ (begun : List (Option OpenBar)) (told : AreToldBut t u place begun) where
    -- whose bar is what the table tells needs no look
    each_goes_on : (vs : List Task) → AllByRecursion (IsBeside t u) vs → AllByRecursion (λ v. goes_on (begun_of begun v) (kind_at t v) ≡ true) vs
    each_goes_on [] h = tt
    each_goes_on (v ∷ vs) h = (told-goes_on v (begun_of begun v) (kind_at t v) (λ bar at. (let stands = told.kept.stand v.slot bar at in told.kept.seated.one bar.task v stands.1 h.0.0 stands.0)) (told.told v h.0.1), each_goes_on vs h.1)

    -- where that is so of all neighbours, a look at the task alone comes to the same
    looks_alone : (begun' : List (Option OpenBar)) (marks marks' : List Mark) → LooksAt c place t u begun begun' marks marks' → LooksAtEach c place t (beside t u) begun begun' marks marks'
    looks_alone begun' marks marks' one =
        let going_on = each_goes_on (neighbours_of t u) (neighbours_beside t u t.conflicts told.kept.sound.ends_present told.kept.sound.ends_differ) in
        looks_around told.here begun begun begun' marks marks marks' (none_looked c place t begun marks (neighbours_of t u) going_on) one

-- a look at whoever begins comes to the same as one at each of those whom the call may change
pub looks_after_begin : (c : Call) (place : ℕ) (t : Table) (x : Task) → c ≡ call.Begin x → (begun begun' : List (Option OpenBar)) (marks marks' : List Mark) → AreCalmAfter c t place begun → LooksAt (call.Begin x) place t x begun begun' marks marks' → LooksAtEach c place t (looked_at t c) begun begun' marks marks'
looks_after_begin c place t x is begun begun' marks marks' calm one =
    let told : AreToldBut t x place begun = subst (λ k. AreCalmAfter k t place begun) is calm in
    subst (λ k. LooksAtEach k place t (looked_at t k) begun begun' marks marks') (sym is) (looks_alone (call.Begin x) place t x begun told begun' marks marks' one)

-- ---- the table after an accepted call

module _ (t : Table) (c : Call) (ok : refusal_of t c ≡ None) (next : Table) (is : next ≡ table_after_call t c) where
  -- it is the one that the call changes
  pub changed-is : next ≡ changed_by t c
  changed-is = is ∙ rw ok refl

  -- and tells whom to look at
  pub whom-is : looked_at next c ≡ looked_at_by t c
  whom-is = ap (λ n. looked_at n c) changed-is ∙ looked_at_after t c ok ∙ sym (rw ok refl)
