-- What a drawing keeps true of its bars: of each task goes on what the table tells of it, after each entry too.
use Rattle.std.proofs.Common.{◌≡◌, ℕ, ◌+◌, ◌<◌, true, false, List, [], ◌∷◌, Option, Some, None, is_some, inl, inr, refl, sym, ap, ◌∙◌, subst, arith}
use Rattle.std.specs.Prelude.{slice_index_or}
use Rattle.std.specs.List.{list_any}
use Rattle.std.proofs.lemmas.Bool.{cases_Bool}
use Rattle.dine_words.specs.declared.limits.Limits.{Limits}
use Rattle.dine_words.specs.declared.task.Diner.{Diner}
use Rattle.dine_words.specs.declared.task.Task.{Task}
use Rattle.dine_words.specs.declared.task.State.{State}
use Rattle.dine_words.specs.declared.task.State.TheVariants.{Thinking, Hungry, Eating}
use Rattle.dine_words.specs.declared.call.Call.{Call}
use Rattle.dine_words.specs.declared.call.Call.TheVariants as call
use Rattle.dine_words.specs.declared.call.Refusal.{Refusal}
use Rattle.dine_table.specs.Table.{Table, same_task, state_in, state_of, is_ready}
use Rattle.dine_table.specs.Calls.{newcomer, refusal_of, changed_by, table_after_call, with_state, without}
use Rattle.dine_table.specs.Sound.{IsSound}
use Rattle.dine_table.proofs.CallerLemmas.{AllByRecursion-filter, AllByRecursion-push, diner_put_in-task, found, limits-after_call, newcomers_slot-lt, one_in_slot, same_task-refl, same_task-true}
use Rattle.dine_bars.specs.declared.bar.BarKind.{BarKind}
use Rattle.dine_bars.specs.declared.bar.OpenBar.{OpenBar}
use Rattle.dine_bars.specs.Bars.{kind_in, kind_at}
use Rattle.dine_bars.specs.Begun.{AreSeated, AreStanding, AreTold, SlotsBelow, kind_of_bar}
use Rattle.dine_bars.specs.Marks.{begun_of, begun_by, looked_at_by}
use Rattle.dine_bars.proofs.Looks.{AreLooked, looked}
use Rattle.dine_bars.proofs.Unchanged.{looked_at_present, unchanged}

-- ---- slots

-- slots are below the number of tasks where a task gets a state
below_with_state : (tasks : ℕ) (s : State) (u : Task) (order : List Diner) → SlotsBelow tasks order → SlotsBelow tasks (with_state s u order)
below_with_state tasks s u [] h = tt
below_with_state tasks s u (d ∷ ds) h = (rw (diner_put_in-task s u d) h.0, below_with_state tasks s u ds h.1)

-- the slot of a task that is present is below the number of tasks
below_present : (tasks : ℕ) (order : List Diner) → SlotsBelow tasks order → (u : Task) → is_some (state_in order u) ≡ true → u.slot < tasks
below_present tasks [] h u here = absurd (let k : false ≡ true = here in cc)
below_present tasks (d ∷ ds) h u here = elim (cases_Bool (same_task d.task u)) [
  | inl e ↦ subst (λ (w : Task). w.slot < tasks) (same_task-true d.task u e) h.0
  | inr e ↦ below_present tasks ds h.1 u (rw e at here)
]

-- slots are below it after an accepted call
below_accepted : (t : Table) (c : Call) → refusal_of t c ≡ None → SlotsBelow t.limits.tasks t.order → SlotsBelow t.limits.tasks (changed_by t c).order
below_accepted t call.Join ok h = AllByRecursion-push _ t.order (record { task = newcomer t; state = Thinking }) h (newcomers_slot-lt t ok)
below_accepted t (call.Leave u) ok h = AllByRecursion-filter _ _ t.order h
below_accepted t (call.Conflict u v) ok h = h
below_accepted t (call.Separate u v) ok h = h
below_accepted t (call.Hungry u) ok h = below_with_state t.limits.tasks Hungry u t.order h
below_accepted t (call.Begin u) ok h = below_with_state t.limits.tasks Eating u t.order h
below_accepted t (call.Finish u) ok h =
    AllByRecursion-push _ (without u t.order) (record { task = u; state = Thinking }) (AllByRecursion-filter _ _ t.order h) (below_present t.limits.tasks t.order h u (ap is_some (found Eating (state_of t u) ok)))
below_accepted t (call.Withdraw u) ok h = below_with_state t.limits.tasks Thinking u t.order h

-- and after any call
pub below_after_call : (t : Table) (c : Call) → SlotsBelow t.limits.tasks t.order → SlotsBelow (table_after_call t c).limits.tasks (table_after_call t c).order
below_after_call t c h = go (refusal_of t c) refl
  where
    kept : (c : Call) → refusal_of t c ≡ None → SlotsBelow (changed_by t c).limits.tasks (changed_by t c).order
    kept call.Join ok = below_accepted t call.Join ok h
    kept (call.Leave u) ok = below_accepted t (call.Leave u) ok h
    kept (call.Conflict u v) ok = below_accepted t (call.Conflict u v) ok h
    kept (call.Separate u v) ok = below_accepted t (call.Separate u v) ok h
    kept (call.Hungry u) ok = below_accepted t (call.Hungry u) ok h
    kept (call.Begin u) ok = below_accepted t (call.Begin u) ok h
    kept (call.Finish u) ok = below_accepted t (call.Finish u) ok h
    kept (call.Withdraw u) ok = below_accepted t (call.Withdraw u) ok h

    go : (o : Option Refusal) → refusal_of t c ≡ o → SlotsBelow (table_after_call t c).limits.tasks (table_after_call t c).order
    go None e = rw e (kept c e)
    go (Some r) e = rw e h

-- the tasks that are present sit in slots of their own
pub are_seated : (t : Table) → IsSound t → SlotsBelow t.limits.tasks t.order → AreSeated t t.limits.tasks
are_seated t sound below = record {
  one = one_in_slot t.order sound.each_slot_once;
  within = below_present t.limits.tasks t.order below;
}

-- ---- what is drawn of a task

-- whoever something is drawn of is present
drawn_present : (t : Table) (w : Task) (k : BarKind) → kind_at t w ≡ Some k → is_some (state_of t w) ≡ true
drawn_present t w k h = go (state_of t w) refl
  where
    go : (o : Option State) → state_of t w ≡ o → is_some (state_of t w) ≡ true
    go None e = absurd (let none : None ≡ Some k = sym (ap (kind_in (is_ready t w)) e) ∙ h in cc)
    go (Some s) e = ap is_some e

-- ---- one entry

-- bars that are told at a place are so at the next
pub told_later : (t : Table) (place : ℕ) (begun : List (Option OpenBar)) → AreTold t place begun → AreTold t (place + 1) begun
told_later t place begun told = record {
  below = told.below;
  stand = λ s bar at. (let stands = told.stand s bar at in (stands.0, stands.1, omega (arith, stands.2)));
  all = told.all;
  kinds = told.kinds;
}

module _ (t : Table) (sound : IsSound t) (place : ℕ) (begun : List (Option OpenBar)) (told : AreTold t place begun) (c : Call) where
  -- the table after the call
  abbrev next : Table
  next = table_after_call t c

  -- whom the call has looked at
  abbrev us : List Task
  us = looked_at_by t c

  -- the bars that go on then
  abbrev begun_now : List (Option OpenBar)
  begun_now = begun_by c place next begun us

  -- what is known after the looks
  pub looks_at : AreLooked c place t next t.limits.tasks (are_seated t sound told.below) begun us
  looks_at = looked c place t next t.limits.tasks (are_seated t sound told.below) begun told.stand told.all us (λ u there. looked_at_present t sound u c there)

  -- each bar is of the kind that is drawn in that table
  kinds_now : (w : Task) → kind_of_bar w (begun_of begun_now w) ≡ kind_at next w
  kinds_now w = elim (cases_Bool (list_any (same_task w) us)) [
    | inl there ↦ looks_at.now w there
    | inr away ↦ looks_at.still w away ∙ (told.kinds w ∙ sym (unchanged t sound c w away))
  ]

  -- and stands at the slot of its task
  stand_now : AreStanding next place begun_now
  stand_now s bar at =
      let stands = looks_at.stand s bar at in
      let kind : kind_of_bar bar.task (begun_of begun_now bar.task) ≡ Some bar.kind = ap (λ i. kind_of_bar bar.task (slice_index_or begun_now i None)) stands.0 ∙ (ap (kind_of_bar bar.task) at ∙ rw (same_task-refl bar.task) refl) in
      (stands.0, drawn_present next bar.task bar.kind (sym (kinds_now bar.task) ∙ kind), stands.2)

  -- they are told after the entry too
  pub told_next : AreTold next place begun_now
  told_next = record {
    below = below_after_call t c told.below;
    stand = stand_now;
    all = looks_at.all ∙ ap (λ (l : Limits). l.tasks) (sym (limits-after_call t c));
    kinds = kinds_now;
  }
