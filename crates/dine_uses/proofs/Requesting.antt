-- What a client's request leaves, and what its withdrawal undoes.
use Rattle.std.proofs.Common.{◌≡◌, ℕ, ◌+◌, ◌<◌, true, false, not, cond, List, [], ◌∷◌, ◌++◌, length, take, get_or, Option, Some, None, is_none, is_some, inl, inr, refl, sym, ap, ◌∙◌, append_assoc}
use Rattle.std.specs.List.{filter}
use Rattle.std.proofs.lemmas.Bool.{cases_Bool, false_from_ne_true}
use Rattle.std.proofs.lemmas.List.{map-append, take_more}
use Rattle.dine_words.specs.declared.task.Task.{Task}
use Rattle.dine_words.specs.declared.task.Diner.{Diner}
use Rattle.dine_words.specs.declared.task.State.{State}
use Rattle.dine_words.specs.declared.task.State.TheVariants.{Thinking, Hungry}
use Rattle.dine_words.specs.declared.call.Call.{Call}
use Rattle.dine_words.specs.declared.call.Call.TheVariants as call
use Rattle.dine_words.specs.declared.call.Refusal.{Refusal}
use Rattle.dine_table.specs.Table.{Table, has_end, same_task, state_in, state_of}
use Rattle.dine_table.specs.Calls.{changed_by, newcomer, refusal_of, refusal_unless, table_after_call, with_state, without}
use Rattle.dine_table.specs.Sound.{EndsPresent, IsSound}
use Rattle.dine_table.proofs.CallerLemmas.{newcomer_absent, same_task-refl, same_task-true, state_in-append_same}
use Rattle.dine_uses.specs.Requests.{HasRequested, IsAsBefore, rivalries, with_rivals}

-- ---- rivals, one after the other

-- one more is a rival
pub with_next : (old mid new : Table) (u d : Task) (rivals : List Task) (i : ℕ) → i < length rivals → mid ≡ with_rivals old u (take i rivals) → new ≡ changed_by mid (call.Conflict u (get_or rivals i d)) → new ≡ with_rivals old u (take (i + 1) rivals)
with_next old mid new u d rivals i inside so_far next =
    let v = get_or rivals i d in
    let pairs : rivalries u (take (i + 1) rivals) ≡ rivalries u (take i rivals) ++ (u, v) ∷ [] = ap (rivalries u) (take_more rivals i d inside) ∙ map-append (λ (rival : Task). (u, rival)) (take i rivals) (v ∷ []) in
    next ∙ ap (λ x. changed_by x (call.Conflict u v)) so_far
    ∙ ap (λ (cs : List (Task × Task)). record old { conflicts = cs }) (append_assoc old.conflicts (rivalries u (take i rivals)) ((u, v) ∷ []) ∙ ap (λ cs. old.conflicts ++ cs) (sym pairs))

-- ---- a newcomer's place

-- whoever came last gets a state where it stands
put_last : (s : State) (u : Task) (order : List Diner) → state_in order u ≡ None → with_state s u (order ++ record { task = u; state = Thinking } ∷ []) ≡ order ++ record { task = u; state = s } ∷ []
put_last s u [] absent = rw (same_task-refl u) refl
put_last s u (d ∷ ds) absent = elim (cases_Bool (same_task d.task u)) [
  | inl e ↦ absurd (let k : Some d.state ≡ None = rw e at absent in cc)
  | inr e ↦ rw (e, put_last s u ds (rw e at absent)) refl
]

-- where whoever came last leaves, the others stand as before
leave_last : (u : Task) (order : List Diner) → state_in order u ≡ None → without u (order ++ record { task = u; state = Thinking } ∷ []) ≡ order
leave_last u [] absent = rw (same_task-refl u) refl
leave_last u (d ∷ ds) absent = elim (cases_Bool (same_task d.task u)) [
  | inl e ↦ absurd (let k : Some d.state ≡ None = rw e at absent in cc)
  | inr e ↦ rw (e, leave_last u ds (rw e at absent)) refl
]

-- ---- a newcomer's conflicts

-- whoever wasn't present is none of those who were
is_no_end : (order : List Diner) (u v : Task) → state_in order u ≡ None → is_some (state_in order v) ≡ true → same_task u v ≡ false
is_no_end order u v absent present = false_from_ne_true (same_task u v) (λ e. (let k : false ≡ true = ap is_some (sym absent ∙ ap (state_in order) (same_task-true u v e)) ∙ present in cc))

-- a client that leaves takes all its rivalries with it
own_go : (u : Task) (rivals : List Task) → filter (λ c. not (has_end u c)) (rivalries u rivals) ≡ []
own_go u [] = refl
own_go u (v ∷ vs) = rw (same_task-refl u) (own_go u vs)

-- all other conflicts stay
others_stay : (order : List Diner) (u : Task) (cs : List (Task × Task)) (rivals : List Task) → state_in order u ≡ None → EndsPresent order cs → filter (λ c. not (has_end u c)) (cs ++ rivalries u rivals) ≡ cs
others_stay order u [] rivals absent ends = own_go u rivals
others_stay order u (c ∷ cs) rivals absent ends = rw (is_no_end order u c.0 absent ends.0.0, is_no_end order u c.1 absent ends.0.1, others_stay order u cs rivals absent ends.1) refl

-- ---- the request as a whole

-- a newcomer isn't present before it joins
absent : (t : Table) → IsSound t → state_of t (newcomer t) ≡ None
absent t sound = newcomer_absent t.order t.clock (newcomer t) refl sound.born_before

-- who has just joined thinks
pub newcomer_thinks : (t joined mid : Table) (u : Task) (rivals : List Task) → IsSound t → u ≡ newcomer t → joined ≡ changed_by t call.Join → mid ≡ with_rivals joined u rivals → state_of mid u ≡ Some Thinking
newcomer_thinks t joined mid u rivals sound is came rivaled =
    ap (λ (x : Table). state_in x.order u) (rivaled ∙ ap (λ x. with_rivals x u rivals) came)
    ∙ ap (λ x. state_in (t.order ++ record { task = newcomer t; state = Thinking } ∷ []) x) is
    ∙ state_in-append_same t.order record { task = newcomer t; state = Thinking } (absent t sound)

-- what a call leaves that is accepted once the newcomer has its rivals
after_rivals : (t joined mid new : Table) (u : Task) (rivals : List Task) (asked : Call) → joined ≡ changed_by t call.Join → mid ≡ with_rivals joined u rivals → refusal_of mid asked ≡ None → new ≡ table_after_call mid asked → new ≡ changed_by (with_rivals (changed_by t call.Join) u rivals) asked
after_rivals t joined mid new u rivals asked came rivaled accepted made =
    made ∙ ap (λ (o : Option Refusal). cond (is_none o) (changed_by mid asked) mid) accepted
    ∙ ap (λ x. changed_by x asked) (rivaled ∙ ap (λ x. with_rivals x u rivals) came)

-- a client that joined, got its rivals and grew hungry has asked
pub has_asked : (t joined mid new : Table) (u : Task) (rivals : List Task) → IsSound t → u ≡ newcomer t → joined ≡ changed_by t call.Join → mid ≡ with_rivals joined u rivals → new ≡ table_after_call mid (call.Hungry u) → HasRequested t new u rivals
has_asked t joined mid new u rivals sound is came rivaled hungry =
    let none : state_of t u ≡ None = ap (state_of t) is ∙ absent t sound in
    let accepted = ap (refusal_unless Thinking) (newcomer_thinks t joined mid u rivals sound is came rivaled) in
    let so = after_rivals t joined mid new u rivals (call.Hungry u) came rivaled accepted hungry in
    record {
      is_new = none;
      stands_last = ap (λ (x : Table). x.order) so ∙ ap (λ x. with_state Hungry u (t.order ++ record { task = x; state = Thinking } ∷ [])) (sym is) ∙ put_last Hungry u t.order none;
      conflicts = ap (λ (x : Table). x.conflicts) so;
      limits = ap (λ (x : Table). x.limits) so;
    }

-- where it leaves in place of that, all is as before
pub is_undone : (t joined mid new : Table) (u : Task) (rivals : List Task) → IsSound t → u ≡ newcomer t → joined ≡ changed_by t call.Join → mid ≡ with_rivals joined u rivals → new ≡ table_after_call mid (call.Leave u) → IsAsBefore t new
is_undone t joined mid new u rivals sound is came rivaled left =
    let none : state_of t u ≡ None = ap (state_of t) is ∙ absent t sound in
    let accepted = ap (refusal_unless Thinking) (newcomer_thinks t joined mid u rivals sound is came rivaled) in
    let so = after_rivals t joined mid new u rivals (call.Leave u) came rivaled accepted left in
    record {
      order = ap (λ (x : Table). x.order) so ∙ ap (λ x. without u (t.order ++ record { task = x; state = Thinking } ∷ [])) (sym is) ∙ leave_last u t.order none;
      conflicts = ap (λ (x : Table). x.conflicts) so ∙ others_stay t.order u t.conflicts rivals none sound.ends_present;
      limits = ap (λ (x : Table). x.limits) so;
    }
