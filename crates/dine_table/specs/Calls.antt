-- What the table answers to a call, and what the call leaves.
use Rattle.std.specs.Prelude.{ℕ, zero, suc, ◌==◌, ◌+◌, nat_le, Bool, true, false, not, ◌&&◌, if◌then◌else◌, List, [], ◌∷◌, ◌++◌, length, map, Option, Some, None, is_none}
use Rattle.std.specs.List.{list_any, filter}
use Rattle.dine_words.specs.declared.task.Diner.{Diner}
use Rattle.dine_words.specs.declared.task.Task.{Task}
use Rattle.dine_words.specs.declared.task.State.{State}
use Rattle.dine_words.specs.declared.task.State.TheVariants.{Thinking, Hungry, Eating}
use Rattle.dine_words.specs.declared.call.Call.{Call}
use Rattle.dine_words.specs.declared.call.Call.TheVariants as call
use Rattle.dine_words.specs.declared.call.Refusal.{Refusal}
use Rattle.dine_words.specs.declared.call.Refusal.TheVariants.{Full, Unknown, Same, Already, Apart, BothEating, NoRoom, WrongState, NotYet}
use Rattle.dine_words.specs.declared.call.Reply.{Reply}
use Rattle.dine_words.specs.declared.call.Reply.TheVariants.{Joined, Done, Refused}
use Rattle.dine_table.specs.Table.{Table, same_task, same_state, state_of, is_in, has_end, is_between, are_in_conflict, is_ready}

-- ---- refusals

-- as many tasks are present as the limit allows
abbrev pub is_full : Table → Bool
is_full t = nat_le t.limits.tasks (length t.order)

-- as many conflicts stand as the limit allows
abbrev pub has_no_room : Table → Bool
has_no_room t = nat_le t.limits.conflicts (length t.conflicts)

-- the task isn't present
abbrev pub is_absent : Table → Task → Bool
is_absent t u = is_none (state_of t u)

-- the refusal of a call that needs a task in one state and finds it in another, or doesn't find it
abbrev pub refusal_unless : State → Option State → Option Refusal
refusal_unless needed None = Some Unknown
refusal_unless needed (Some found) = if same_state needed found then None else Some (WrongState found)

-- the first refusal, or else the second
abbrev pub or_else : Option Refusal → Option Refusal → Option Refusal
or_else None next = next
or_else (Some refusal) next = Some refusal

-- the first refusal that applies, in the order in which they stand here
abbrev pub refusal_of : Table → Call → Option Refusal
refusal_of t call.Join = if is_full t then Some Full else None
refusal_of t (call.Leave u) = refusal_unless Thinking (state_of t u)
refusal_of t (call.Conflict u v) =
    if is_absent t u then Some Unknown
    else if is_absent t v then Some Unknown
    else if same_task u v then Some Same
    else if are_in_conflict t u v then Some Already
    else if is_in Eating t.order u && is_in Eating t.order v then Some BothEating
    else if has_no_room t then Some NoRoom
    else None
refusal_of t (call.Separate u v) =
    if is_absent t u then Some Unknown
    else if is_absent t v then Some Unknown
    else if same_task u v then Some Same
    else if are_in_conflict t u v then None
    else Some Apart
refusal_of t (call.Hungry u) = refusal_unless Thinking (state_of t u)
refusal_of t (call.Begin u) =
    or_else (refusal_unless Hungry (state_of t u)) (if is_ready t u then None else Some NotYet)
refusal_of t (call.Finish u) = refusal_unless Eating (state_of t u)
refusal_of t (call.Withdraw u) = refusal_unless Hungry (state_of t u)

-- ---- what an accepted call changes

-- the least slot from s on that no task has, among n slots
abbrev pub free_slot_from : ℕ → ℕ → List Diner → ℕ
free_slot_from zero s order = s
free_slot_from (suc n) s order = if list_any (λ d. d.task.slot == s) order then free_slot_from n (s + 1) order else s

-- the name that the next task to join gets
abbrev pub newcomer : Table → Task
newcomer t = record { slot = free_slot_from (length t.order) 0 t.order; born = t.clock }

-- the diner, in the state s if it is u
abbrev pub diner_put_in : State → Task → Diner → Diner
diner_put_in s u d = if same_task d.task u then record { task = d.task; state = s } else d

-- u is in the state s, and stays where it stands
abbrev pub with_state : State → Task → List Diner → List Diner
with_state s u order = map (diner_put_in s u) order

-- the others, who keep their order
abbrev pub without : Task → List Diner → List Diner
without u order = filter (λ d. not (same_task d.task u)) order

-- u stands last, thinking
abbrev pub moved_last : Task → List Diner → List Diner
moved_last u order = without u order ++ record { task = u; state = Thinking } ∷ []

-- the table that an accepted call leaves
abbrev pub changed_by : Table → Call → Table
changed_by t call.Join =
    record t { order = t.order ++ record { task = newcomer t; state = Thinking } ∷ []; clock = t.clock + 1 }
changed_by t (call.Leave u) =
    record t { order = without u t.order; conflicts = filter (λ c. not (has_end u c)) t.conflicts }
changed_by t (call.Conflict u v) = record t { conflicts = t.conflicts ++ (u, v) ∷ [] }
changed_by t (call.Separate u v) = record t { conflicts = filter (λ c. not (is_between u v c)) t.conflicts }
changed_by t (call.Hungry u) = record t { order = with_state Hungry u t.order }
changed_by t (call.Begin u) = record t { order = with_state Eating u t.order }
changed_by t (call.Finish u) = record t { order = moved_last u t.order; clock = t.clock + 1 }
changed_by t (call.Withdraw u) = record t { order = with_state Thinking u t.order }

-- ---- reply and next table

-- the reply to an accepted call
abbrev pub acceptance_of : Table → Call → Reply
acceptance_of t call.Join = Joined (newcomer t)
acceptance_of t (call.Leave u) = Done
acceptance_of t (call.Conflict u v) = Done
acceptance_of t (call.Separate u v) = Done
acceptance_of t (call.Hungry u) = Done
acceptance_of t (call.Begin u) = Done
acceptance_of t (call.Finish u) = Done
acceptance_of t (call.Withdraw u) = Done

-- the refusal, if there is one, or else the acceptance
abbrev pub reply_unless : Option Refusal → Reply → Reply
reply_unless None acceptance = acceptance
reply_unless (Some refusal) acceptance = Refused refusal

-- the reply to a call
abbrev pub reply_of : Table → Call → Reply
reply_of t c = reply_unless (refusal_of t c) (acceptance_of t c)

-- the table that a call leaves. A refused call leaves it as it is
abbrev pub table_after_call : Table → Call → Table
table_after_call t c = if is_none (refusal_of t c) then changed_by t c else t

-- ---- who has to wait

-- the reply is NotYet
abbrev pub is_not_yet : Reply → Bool
is_not_yet (Joined u) = false
is_not_yet Done = false
is_not_yet (Refused Full) = false
is_not_yet (Refused Unknown) = false
is_not_yet (Refused Same) = false
is_not_yet (Refused Already) = false
is_not_yet (Refused Apart) = false
is_not_yet (Refused BothEating) = false
is_not_yet (Refused NoRoom) = false
is_not_yet (Refused (WrongState found)) = false
is_not_yet (Refused NotYet) = true

-- whoever begins the task has to wait: the reply would be NotYet
abbrev pub has_to_wait : Table → Task → Bool
has_to_wait t u = is_not_yet (reply_of t (call.Begin u))
