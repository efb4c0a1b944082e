-- The numbers by which a program in C names calls and states, and what it is answered. Refusals have the arbiter's own.
use Rattle.std.specs.Prelude.{ℕ, ◌==◌, if◌then◌else◌, Option, Some, None}
use Rattle.dine_words.specs.declared.task.Task.{Task}
use Rattle.dine_words.specs.declared.task.State.{State}
use Rattle.dine_words.specs.declared.task.State.TheVariants as state
use Rattle.dine_words.specs.declared.call.Call.{Call}
use Rattle.dine_words.specs.declared.call.Call.TheVariants as call
use Rattle.dine_words.specs.declared.call.Reply.{Reply}
use Rattle.dine_words.specs.declared.call.Reply.TheVariants.{Joined, Done, Refused}
use Rattle.dine_words.specs.Refusals.{number_of_refusal}
use Rattle.dine_embed.specs.declared.numbers.Fault.{Fault}
use Rattle.dine_embed.specs.declared.numbers.Fault.TheVariants.{NoSuchCall, ClockEnded, OutOfRange, NoMemory, NoSpace}

-- the call that a number names, of these tasks: a join passes over both, and a call about one task over the second
abbrev pub call_numbered : ℕ → Task → Task → Option Call
call_numbered n first second =
    if n == 1 then Some call.Join
    else if n == 2 then Some (call.Leave first)
    else if n == 3 then Some (call.Conflict first second)
    else if n == 4 then Some (call.Separate first second)
    else if n == 5 then Some (call.Hungry first)
    else if n == 6 then Some (call.Begin first)
    else if n == 7 then Some (call.Finish first)
    else if n == 8 then Some (call.Withdraw first)
    else None

-- the number of a reply: 0 where the call was carried out, and else the refusal's own
abbrev pub number_of_reply : Reply → ℕ
number_of_reply (Joined task) = 0
number_of_reply Done = 0
number_of_reply (Refused refusal) = number_of_refusal refusal

-- the number of a fault, beyond all numbers of refusals. 104 is the header's own
abbrev pub number_of_fault : Fault → ℕ
number_of_fault NoSuchCall = 100
number_of_fault ClockEnded = 101
number_of_fault OutOfRange = 102
number_of_fault NoMemory = 103
number_of_fault NoSpace = 105

-- the number of a state, and 0 where the task isn't present
abbrev pub number_of_state : Option State → ℕ
number_of_state None = 0
number_of_state (Some state.Thinking) = 1
number_of_state (Some state.Hungry) = 2
number_of_state (Some state.Eating) = 3
