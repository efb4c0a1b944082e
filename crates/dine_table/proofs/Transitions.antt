-- An accepted call takes its task from the state before its transition to the state after it.
use Rattle.std.proofs.Common.{◌≡◌, Some, None, is_some, ap, subst}
use Rattle.std.proofs.lemmas.Option.{same_Some}
use Rattle.dine_words.specs.declared.task.Task.{Task}
use Rattle.dine_words.specs.declared.task.Diner.{Diner}
use Rattle.dine_words.specs.declared.task.State.{State}
use Rattle.dine_words.specs.declared.task.State.TheVariants.{Thinking, Hungry, Eating}
use Rattle.dine_words.specs.declared.call.Call.{Call}
use Rattle.dine_words.specs.declared.call.Call.TheVariants as call
use Rattle.dine_table.specs.Table.{Table, state_of}
use Rattle.dine_table.specs.Calls.{refusal_of, refusal_unless, changed_by, table_after_call, with_state, without}
use Rattle.dine_table.specs.Transitions.{Transition, transition_of}
use Rattle.dine_table.proofs.Accepted.{found, or_else-None}
use Rattle.dine_table.proofs.Order.{state_in-append_same, state_in-with_state_same, state_in-without_same}

-- the transition leads from the table t to the table next: its task has the state before in t, and the one after in next
record Leads (t next : Table) (x : Transition) : Type 0 where
  from_before : state_of t x.task ≡ Some x.before
  to_after : state_of next x.task ≡ x.after

-- a task that is put in a state, and keeps its place, was led there
put_leads : (t : Table) (u : Task) (before after : State) → state_of t u ≡ Some before → Leads t (record t { order = with_state after u t.order }) (record { task = u; before = before; after = Some after })
put_leads t u before after here = record { from_before = here; to_after = state_in-with_state_same after u t.order (ap is_some here) }

-- what a transition of the call leads to, that which is asked for leads to
asked_leads : (t next : Table) (x asked : Transition) → Some x ≡ Some asked → Leads t next x → Leads t next asked
asked_leads t next x asked is leads = subst (Leads t next) (same_Some x asked is) leads

-- the transition that an accepted call asks for leads to the table that the call leaves
accepted_leads : (t : Table) (c : Call) (asked : Transition) → transition_of c ≡ Some asked → refusal_of t c ≡ None → Leads t (changed_by t c) asked
accepted_leads t call.Join asked is ok = absurd (let k : None ≡ Some asked = is in cc)
accepted_leads t (call.Leave u) asked is ok = asked_leads t _ _ asked is (record { from_before = found Thinking (state_of t u) ok; to_after = state_in-without_same u t.order })
accepted_leads t (call.Conflict u v) asked is ok = absurd (let k : None ≡ Some asked = is in cc)
accepted_leads t (call.Separate u v) asked is ok = absurd (let k : None ≡ Some asked = is in cc)
accepted_leads t (call.Hungry u) asked is ok = asked_leads t _ _ asked is (put_leads t u Thinking Hungry (found Thinking (state_of t u) ok))
accepted_leads t (call.Begin u) asked is ok =
    let hungry = (or_else-None (refusal_unless Hungry (state_of t u)) _ ok).0 in
    asked_leads t _ _ asked is (put_leads t u Hungry Eating (found Hungry (state_of t u) hungry))
accepted_leads t (call.Finish u) asked is ok =
    let d : Diner = record { task = u; state = Thinking } in
    asked_leads t _ _ asked is (record {
      from_before = found Eating (state_of t u) ok;
      to_after = state_in-append_same (without u t.order) d (state_in-without_same u t.order);
    })
accepted_leads t (call.Withdraw u) asked is ok = asked_leads t _ _ asked is (put_leads t u Hungry Thinking (found Hungry (state_of t u) ok))

-- an accepted call finds its task in the state before
pub found_before : (t : Table) (c : Call) (asked : Transition) → transition_of c ≡ Some asked → refusal_of t c ≡ None → state_of t asked.task ≡ Some asked.before
found_before t c asked is ok = (accepted_leads t c asked is ok).from_before

-- and leaves it in the state after
pub left_after : (t : Table) (c : Call) (asked : Transition) → transition_of c ≡ Some asked → refusal_of t c ≡ None → state_of (table_after_call t c) asked.task ≡ asked.after
left_after t c asked is ok = rw ok (accepted_leads t c asked is ok).to_after
