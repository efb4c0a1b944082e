-- Who is present, in the order of last meals, as calls are made.
use Rattle.std.proofs.Common.{◌≡◌, not, List, [], ◌∷◌, ◌++◌, map, Option, Some, None, Result, Ok, Err, OnOk, inl, inr, refl, sym, ap, ◌∙◌}
use Rattle.std.specs.List.{filter}
use Rattle.std.specs.declared.alloc.AllocError.{AllocError}
use Rattle.std.proofs.lemmas.Bool.{cases_Bool}
use Rattle.std.proofs.lemmas.List.{map-append}
use Rattle.dine_words.specs.declared.call.Call.{Call}
use Rattle.dine_words.specs.declared.call.Call.TheVariants as call
use Rattle.dine_words.specs.declared.call.Refusal.{Refusal}
use Rattle.dine_words.specs.declared.call.Reply.{Reply}
use Rattle.dine_words.specs.declared.task.Diner.{Diner}
use Rattle.dine_words.specs.declared.task.State.{State}
use Rattle.dine_words.specs.declared.task.State.TheVariants.{Thinking, Hungry, Eating}
use Rattle.dine_words.specs.declared.task.Task.{Task}
use Rattle.dine_table.specs.Calls.{acceptance_of, changed_by, newcomer, refusal_of, reply_of, table_after_call, with_state, without}
use Rattle.dine_table.specs.Table.{Table, same_task}
use Rattle.dine_table.proofs.CallerLemmas.{diner_put_in-task}
use Rattle.dine_chart.specs.Graph.{order_after, present}

-- the tasks of diners
abbrev tasks_of : List Diner → List Task
tasks_of order = map (λ d. d.task) order

-- those present stay where one gets a state
tasks-with_state : (s : State) (u : Task) (order : List Diner) → tasks_of (with_state s u order) ≡ tasks_of order
tasks-with_state s u [] = refl
tasks-with_state s u (d ∷ ds) = rw (diner_put_in-task s u d, tasks-with_state s u ds) refl

-- those present, without the one that is taken out
tasks-without : (u : Task) (order : List Diner) → tasks_of (without u order) ≡ filter (λ t. not (same_task t u)) (tasks_of order)
tasks-without u [] = refl
tasks-without u (d ∷ ds) = elim (cases_Bool (same_task d.task u)) [
  | inl e ↦ rw e (tasks-without u ds)
  | inr e ↦ rw e (ap (λ ts. d.task ∷ ts) (tasks-without u ds))
]

-- those present, and one behind them who came
tasks-push : (order : List Diner) (u : Task) → tasks_of (order ++ record { task = u; state = Thinking } ∷ []) ≡ tasks_of order ++ u ∷ []
tasks-push order u = map-append (λ d. d.task) order (record { task = u; state = Thinking } ∷ [])

-- an accepted call
present-accepted : (t : Table) (c : Call) → present (changed_by t c) ≡ order_after c (acceptance_of t c) (present t)
present-accepted t call.Join = tasks-push t.order (newcomer t)
present-accepted t (call.Leave u) = tasks-without u t.order
present-accepted t (call.Conflict u v) = refl
present-accepted t (call.Separate u v) = refl
present-accepted t (call.Hungry u) = tasks-with_state Hungry u t.order
present-accepted t (call.Begin u) = tasks-with_state Eating u t.order
present-accepted t (call.Finish u) = tasks-push (without u t.order) u ∙ ap (λ ts. ts ++ u ∷ []) (tasks-without u t.order)
present-accepted t (call.Withdraw u) = tasks-with_state Thinking u t.order

-- any call
pub present-after : (t : Table) (c : Call) → present (table_after_call t c) ≡ order_after c (reply_of t c) (present t)
present-after t c = go (refusal_of t c) refl
  where
    go : (o : Option Refusal) → refusal_of t c ≡ o → present (table_after_call t c) ≡ order_after c (reply_of t c) (present t)
    go None e = rw e (present-accepted t c)
    go (Some r) e = rw e refl

-- the order that follows a call is that of who is present after it
pub followed : {X : Type 0} (r : Result X AllocError) (t next : Table) (c : Call) (reply : Reply) (old new : List Task) → OnOk r (new ≡ order_after c reply old) → reply ≡ reply_of t c → next ≡ table_after_call t c → old ≡ present t → OnOk r (new ≡ present next)
followed (Ok x) t next c reply old new follows says leaves stands =
    follows ∙ ap (λ a. order_after c a old) says ∙ ap (order_after c (reply_of t c)) stands ∙ sym (present-after t c) ∙ sym (ap (λ (n : Table). present n) leaves)
followed (Err e) t next c reply old new follows says leaves stands = tt
