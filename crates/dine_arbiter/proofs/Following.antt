-- Each call keeps each fork in agreement with the order of last meals, and costs what the table says.
use Rattle.dine_arbiter.proofs.Words.{◌≡◌, ℕ, true, false, not, ◌&&◌, if◌then◌else◌, List, Option, Some, None, refl, sym, ap, ◌∙◌, subst, arith, ◌≤◌, Bool, Call, Refusal, Apart, Table, same_task, is_in, state_of, is_between, are_in_conflict, is_ready, neighbours_of, sooner, has_no_room, is_absent, or_else, refusal_unless, refusal_of, changed_by, table_after_call, newcomer, acceptance_of, reply_of, reply_unless, cost_of, cost_if_accepted, hunger_cost, conflict_cost, withdrawal_cost, Fork, ForksAgree, holds_all, EndsDiffer, IsSound, ChangesForks, ForksFollow, ChangesForksUnless, early_refusal_of, refusal_of_two, most_messages, found, newcomer_absent, or_else-None, present, ready_if, count_by-le-length, sum_by-le, Reply, Refused}
use Rattle.dine_words.specs.declared.call.Call.TheVariants as call
use Rattle.dine_arbiter.specs.Edge.{Task, State, Thinking, Hungry, Eating}
use Rattle.dine_arbiter.proofs.EdgeLaws.{forks-hungry, forks-finish}
use Rattle.dine_arbiter.proofs.Agreement.{holds_all-is, forks-begin, forks-withdraw, forks-join, forks-left, forks-leave, forks-conflict}

-- ---- what an accepted call on two tasks tells

-- a conflict that is accepted has two tasks that are present, and room
pub conflict_tells : (t : Table) (u v : Task) → refusal_of t (call.Conflict u v) ≡ None → (x y : State) × (state_of t u ≡ Some x) × (state_of t v ≡ Some y) × (same_task u v ≡ false) × (are_in_conflict t u v ≡ false) × ((is_in Eating t.order u && is_in Eating t.order v) ≡ false) × (has_no_room t ≡ false)
conflict_tells t u v ok =
    let is : (is_absent t u ≡ false) × (is_absent t v ≡ false) × (same_task u v ≡ false) × (are_in_conflict t u v ≡ false) × ((is_in Eating t.order u && is_in Eating t.order v) ≡ false) × (has_no_room t ≡ false) = grind arith in
    let (x, hu) = present (state_of t u) is.0 in
    let (y, hv) = present (state_of t v) is.1 in
    (x, y, hu, hv, is.2, is.3, is.4, is.5)

-- ---- what is asked before a conflict that is to end is looked for

-- the end of a conflict is refused for what speaks against the two tasks, and else where they are apart
separate-parts : (t : Table) (u v : Task) → refusal_of t (call.Separate u v) ≡ or_else (refusal_of_two t u v) (if are_in_conflict t u v then None else Some Apart)
separate-parts t u v = grind arith

-- what is refused early is refused
pub early_refused : (t : Table) (c : Call) (r : Refusal) → early_refusal_of t c ≡ Some r → refusal_of t c ≡ Some r
early_refused t (call.Separate u v) r h = separate-parts t u v ∙ ap (λ o. or_else o (if are_in_conflict t u v then None else Some Apart)) h
early_refused t c r h = h

-- what isn't refused isn't refused early
pub early_passed : (t : Table) (c : Call) → refusal_of t c ≡ None → early_refusal_of t c ≡ None
early_passed t (call.Separate u v) h = (or_else-None (refusal_of_two t u v) (if are_in_conflict t u v then None else Some Apart) (sym (separate-parts t u v) ∙ h)).0
early_passed t c h = h

-- where nothing speaks against the two tasks both are present, and whether they can be separated their conflict decides
pub two_passed : (t : Table) (u v : Task) → refusal_of_two t u v ≡ None → (x y : State) × (state_of t u ≡ Some x) × (state_of t v ≡ Some y) × (refusal_of t (call.Separate u v) ≡ (if are_in_conflict t u v then None else Some Apart))
two_passed t u v ok =
    let is : (is_absent t u ≡ false) × (is_absent t v ≡ false) = grind arith in
    let (x, hu) = present (state_of t u) is.0 in
    let (y, hv) = present (state_of t v) is.1 in
    (x, y, hu, hv, separate-parts t u v ∙ ap (λ o. or_else o (if are_in_conflict t u v then None else Some Apart)) ok)

-- ---- one call

-- begin is decided by forks alone: a hungry task holds all of its forks exactly where it is ready
pub holds_all_is_ready : (t : Table) (u : Task) (forks : List Fork) → state_of t u ≡ Some Hungry → EndsDiffer t.conflicts → ForksAgree t forks → holds_all u t.conflicts forks ≡ is_ready t u
holds_all_is_ready t u forks hu d h = holds_all-is t.order u hu t.conflicts forks d h ∙ sym (rw hu refl)

-- an accepted call keeps the forks in agreement, and costs what the table says
accepted : (t : Table) (c : Call) (old new : List Fork) (n : ℕ) → refusal_of t c ≡ None → IsSound t → ForksAgree t old → ChangesForks t c old new n → ForksAgree (changed_by t c) new × (n ≡ cost_if_accepted t c)
accepted t call.Join old new n ok sound h (same, none) =
    (subst (λ fs. ForksAgree (changed_by t call.Join) fs) (sym same) (forks-join t.order record { task = newcomer t; state = Thinking } (newcomer_absent t.order t.clock (newcomer t) refl sound.born_before) t.conflicts old h), none)
accepted t (call.Leave u) old new n ok sound h (same, none) =
    (subst (λ fs. ForksAgree (changed_by t (call.Leave u)) fs) (sym same) (forks-leave t.order u t.conflicts old h), none)
accepted t (call.Conflict u v) old new n ok sound h (fork, same, settled) =
    let (x, y, hu, hv, _, _, not_both, _) = conflict_tells t u v ok in
    let r = forks-conflict t.order u v x y hu hv not_both t.conflicts old fork n h settled in
    (subst (λ fs. ForksAgree (changed_by t (call.Conflict u v)) fs) (sym same) r.0, r.1)
accepted t (call.Separate u v) old new n ok sound h (same, none) =
    (subst (λ fs. ForksAgree (changed_by t (call.Separate u v)) fs) (sym same) (forks-left t.order t.order (λ c. not (is_between u v c)) (λ c f left agree. agree) t.conflicts old h), none)
accepted t (call.Hungry u) old new n ok sound h settled =
    forks-hungry t.order u (found Thinking (state_of t u) ok) t.conflicts old new n sound.ends_differ h settled
accepted t (call.Begin u) old new n ok sound h (same, none) =
    let parts = or_else-None (refusal_unless Hungry (state_of t u)) _ ok in
    let hu = found Hungry (state_of t u) parts.0 in
    let ready : is_ready t u ≡ true = ready_if (is_ready t u) parts.1 in
    (subst (λ fs. ForksAgree (changed_by t (call.Begin u)) fs) (sym same) (forks-begin t.order u hu t.conflicts old sound.ends_differ h (holds_all_is_ready t u old hu sound.ends_differ h ∙ ready)), none)
accepted t (call.Finish u) old new n ok sound h settled =
    forks-finish t.order u (found Eating (state_of t u) ok) t.conflicts old new n sound.ends_differ h settled
accepted t (call.Withdraw u) old new n ok sound h (same, counted) =
    let r = forks-withdraw t.order u (found Hungry (state_of t u) ok) t.conflicts old sound.ends_differ h in
    (subst (λ fs. ForksAgree (changed_by t (call.Withdraw u)) fs) (sym same) r.0, counted ∙ r.1)

-- each call keeps the forks in agreement, and costs what the table says
pub forks_follow : (t : Table) (c : Call) (old new : List Fork) (n : ℕ) → IsSound t → ForksAgree t old → ForksFollow t c old new n → ForksAgree (table_after_call t c) new × (n ≡ cost_of t c)
forks_follow t c old new n sound h k = go (refusal_of t c) refl k
  where
    go : (o : Option Refusal) → refusal_of t c ≡ o → ChangesForksUnless o t c old new n → ForksAgree (table_after_call t c) new × (n ≡ cost_of t c)
    go None e k = rw e (accepted t c old new n e sound h k)
    go (Some r) e (same, none) = rw e (subst (λ fs. ForksAgree t fs) (sym same) h, none)

-- ---- and none costs more messages than its task's conflicts allow

-- hunger costs 3 messages at most on an edge
hunger-le : (b : Bool) (o : Option State) → hunger_cost b o ≤ 3
hunger-le b (Some Thinking) = grind arith
hunger-le b o = grind arith

-- a new edge costs 3 at most
conflict-le : (o p : Option State) → conflict_cost o p ≤ 3
conflict-le (Some Hungry) (Some Thinking) = omega arith
conflict-le o p = omega arith

-- a withdrawal costs 2 at most on an edge
withdrawal-le : (b : Bool) (o : Option State) → withdrawal_cost b o ≤ 2
withdrawal-le b (Some Thinking) = grind arith
withdrawal-le b o = omega arith

-- so an accepted call costs no more than its conflicts allow
accepted-le : (t : Table) (c : Call) → cost_if_accepted t c ≤ most_messages t c
accepted-le t (call.Conflict u v) = grind (arith, conflict-le (state_of t u) (state_of t v), conflict-le (state_of t v) (state_of t u))
accepted-le t (call.Hungry u) = sum_by-le (λ v. hunger_cost (sooner t.order u v) (state_of t v)) 3 (neighbours_of t u) (λ v. hunger-le (sooner t.order u v) (state_of t v))
accepted-le t (call.Finish u) = count_by-le-length (λ v. is_in Hungry t.order v) (neighbours_of t u)
accepted-le t (call.Withdraw u) = sum_by-le (λ v. withdrawal_cost (sooner t.order u v) (state_of t v)) 2 (neighbours_of t u) (λ v. withdrawal-le (sooner t.order u v) (state_of t v))
accepted-le t c = omega arith

-- and neither does any call
pub cost_of-le : (t : Table) (c : Call) → cost_of t c ≤ most_messages t c
cost_of-le t c = grind (arith, accepted-le t c)

-- ---- what a reply tells of its refusal

-- the refusal that a reply is
abbrev pub refusal_in : Reply → Option Refusal
refusal_in (Refused r) = Some r
refusal_in reply = None

-- an acceptance is no refusal
acceptance_is_none : (t : Table) (c : Call) → refusal_in (acceptance_of t c) ≡ None
acceptance_is_none t call.Join = refl
acceptance_is_none t c = refl

-- the reply is the refusal, if there is one
unless_refused : (o : Option Refusal) (r : Reply) → refusal_in r ≡ None → refusal_in (reply_unless o r) ≡ o
unless_refused None r accepted = accepted
unless_refused (Some refusal) r accepted = refl

-- what the reply to a call tells of its refusal is so
pub told_refusal : (t : Table) (c : Call) (r : Reply) → r ≡ reply_of t c → refusal_in r ≡ refusal_of t c
told_refusal t c r says = ap refusal_in says ∙ unless_refused (refusal_of t c) (acceptance_of t c) (acceptance_is_none t c)
