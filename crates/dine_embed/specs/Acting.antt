-- What a call answers that is named by a number, and what it leaves.
use Rattle.std.specs.Prelude.{◌≡◌, List, length, map, take, ℕ, ◌-◌, ◌^◌, ◌==◌, if◌then◌else◌, Option, Some, None}
use Rattle.dine_words.specs.declared.task.Task.{Task}
use Rattle.dine_words.specs.declared.call.Call.{Call}
use Rattle.dine_words.specs.declared.call.Reply.{Reply}
use Rattle.dine_words.specs.declared.call.Reply.TheVariants.{Joined, Done, Refused}
use Rattle.dine_table.specs.Table.{Table}
use Rattle.dine_table.specs.Calls.{reply_of, table_after_call}
use Rattle.dine_table.specs.Messages.{cost_of}
use Rattle.dine_arbiter.specs.Arbitration.{Arbiter}
use Rattle.dine_embed.specs.declared.task.DineTask.{DineTask}
use Rattle.dine_embed.specs.declared.numbers.Fault.TheVariants.{NoSuchCall, ClockEnded}
use Rattle.dine_embed.specs.Numbers.{number_of_fault, number_of_reply}

-- the task that C's struct names
abbrev pub task_named : DineTask → Task
task_named named = record { slot = named.slot; born = named.born }

-- the struct that names a task
abbrev pub name_of : Task → DineTask
name_of task = record { slot = task.slot; born = task.born }

-- the number at which the clock has no room for another join or finish
abbrev pub last_clock : ℕ
last_clock = 2 ^ 64 - 1

-- what asking for a call answers: the table's reply by its number, unless no call is named, or the clock is at its end
abbrev pub number_answered : Table → Option Call → ℕ
number_answered table None = number_of_fault NoSuchCall
number_answered table (Some asked) =
    if table.clock == last_clock then number_of_fault ClockEnded
    else number_of_reply (reply_of table asked)

-- the table after it: where there is a reply, the one after the call, and else the same
abbrev pub table_left : Table → Option Call → Table
table_left table None = table
table_left table (Some asked) =
    if table.clock == last_clock then table else table_after_call table asked

-- the messages that were sent in the last call: this one's where it has a reply
abbrev pub messages_left : Arbiter → Option Call → ℕ
messages_left arbitration None = arbitration.messages
messages_left arbitration (Some asked) =
    if arbitration.table.clock == last_clock then arbitration.messages else cost_of arbitration.table asked

-- what stands at the place for a newcomer: the task that joined, and else what stood there
abbrev pub newcomer_in : Reply → DineTask → DineTask
newcomer_in (Joined task) before = name_of task
newcomer_in Done before = before
newcomer_in (Refused refusal) before = before

-- what stands at that place after asking for a call: what stood there, where no call is carried out
abbrev pub newcomer_left : Table → Option Call → DineTask → DineTask
newcomer_left table None before = before
newcomer_left table (Some asked) before =
    if table.clock == last_clock then before else newcomer_in (reply_of table asked) before

-- the place begins with the names of these tasks, of which there are so many; no tasks are none
abbrev pub ListsTasks : Option (List Task) → List DineTask → ℕ → Type 0
ListsTasks None place count = ⊥
ListsTasks (Some tasks) place count =
    (count ≡ length tasks) × (take (length tasks) place ≡ map name_of tasks)
