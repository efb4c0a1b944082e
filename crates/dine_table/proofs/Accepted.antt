-- What an accepted call tells of the table.
use Rattle.std.proofs.Common.{◌≡◌, ℕ, ◌<◌, Bool, true, false, ◌&&◌, ◌⊎◌, cond, List, [], ◌∷◌, Option, Some, None, is_none, inl, inr, refl, sym, ap, ◌∙◌, arith}
use Rattle.std.specs.List.{AllByRecursion}
use Rattle.std.proofs.lemmas.Bool.{cases_Bool, and_right}
use Rattle.std.proofs.Math.Bool.{and-true}
use Rattle.dine_words.specs.declared.task.Task.{Task}
use Rattle.dine_words.specs.declared.task.State.{State}
use Rattle.dine_words.specs.declared.task.State.TheVariants.{Thinking, Hungry, Eating}
use Rattle.dine_words.specs.declared.task.Diner.{Diner}
use Rattle.dine_words.specs.declared.call.Call.{Call}
use Rattle.dine_words.specs.declared.call.Call.TheVariants as call
use Rattle.dine_words.specs.declared.call.Refusal.{Refusal}
use Rattle.dine_words.specs.declared.call.Refusal.TheVariants.{Unknown, WrongState, NotYet}
use Rattle.dine_words.specs.declared.call.Reply.TheVariants.{Done}
use Rattle.dine_table.specs.Table.{Table, same_task, same_state, state_in}
use Rattle.dine_table.specs.Calls.{acceptance_of, refusal_unless, or_else}
use Rattle.dine_words.specs.Waits.{is_done}
use Rattle.dine_table.proofs.Tasks.{same_task-true}

-- two states that are told to be one are one
pub same_state-true : (s x : State) → same_state s x ≡ true → x ≡ s
same_state-true Thinking Thinking h = refl
same_state-true Hungry Hungry h = refl
same_state-true Eating Eating h = refl
same_state-true s x h = absurd (let k : false ≡ true = h in cc)

-- a call that needs a state, and isn't refused for it, found the task in that state
pub found : (s : State) (o : Option State) → refusal_unless s o ≡ None → o ≡ Some s
found s None h = absurd (let k : Some Unknown ≡ None = h in cc)
found s (Some x) h = elim (cases_Bool (same_state s x)) [
  | inl e ↦ ap (λ w. Some w) (same_state-true s x e)
  | inr e ↦ absurd (let k : Some (WrongState x) ≡ None = rw e at h in cc)
]

-- a chain of tests that comes to no refusal passed each
pub passed : (b : Bool) (r : Refusal) (rest : Option Refusal) → cond b (Some r) rest ≡ None → (b ≡ false) × (rest ≡ None)
passed true r rest h = absurd (let k : Some r ≡ None = h in cc)
passed false r rest h = (refl, h)

-- where neither of two refusals is answered, none of the two applies
pub or_else-None : (o p : Option Refusal) → or_else o p ≡ None → (o ≡ None) × (p ≡ None)
or_else-None None p h = (refl, h)
or_else-None (Some r) p h = absurd (let k : Some r ≡ None = h in cc)

-- a begin that isn't answered `not-yet` is a ready task's
pub ready_if : (b : Bool) → cond b None (Some NotYet) ≡ None → b ≡ true
ready_if true h = refl
ready_if false h = absurd (let k : Some NotYet ≡ None = h in cc)

-- a task that isn't absent has a state
pub present : (o : Option State) → is_none o ≡ false → (x : State) × (o ≡ Some x)
present None h = absurd (let k : true ≡ false = h in cc)
present (Some x) h = (x, refl)

-- the next task to join is new
pub newcomer_absent : (order : List Diner) (clock : ℕ) (u : Task) → u.born ≡ clock → AllByRecursion (λ d. d.task.born < clock) order → state_in order u ≡ None
newcomer_absent [] clock u h b = refl
newcomer_absent (d ∷ ds) clock u h b = elim (cases_Bool (same_task d.task u)) [
  | inl e ↦ absurd (let k : d.task.born ≡ u.born = ap (λ (w : Task). w.born) (same_task-true d.task u e) in let less : d.task.born < clock = b.0 in omega arith)
  | inr e ↦ rw e (newcomer_absent ds clock u h b.1)
]

-- whoever is present isn't one who is absent
pub absent_differs : (order : List Diner) (u v : Task) (x : State) → state_in order u ≡ None → state_in order v ≡ Some x → same_task u v ≡ false
absent_differs order u v x absent present = elim (cases_Bool (same_task u v)) [
  | inl e ↦ absurd (let k : Some x ≡ None = sym present ∙ sym (ap (state_in order) (same_task-true u v e)) ∙ absent in cc)
  | inr e ↦ e
]

-- every accepted call but a join is answered `Done`
pub join_or_done : (t : Table) (c : Call) → (c ≡ call.Join) ⊎ (acceptance_of t c ≡ Done)
join_or_done t call.Join = inl refl
join_or_done t c = inr refl

-- so an accepted call that asks what no join asks is answered `Done`
pub asked_if_done : (asks : Call → Bool) → asks call.Join ≡ false → (t : Table) (c : Call) → (asks c && is_done (acceptance_of t c)) ≡ asks c
asked_if_done asks no_join t c = elim (join_or_done t c) [
  | inl joins ↦ rw joins (and_right (asks call.Join) false refl ∙ sym no_join)
  | inr done ↦ rw done (and-true (asks c))
]
