-- Transitions: what a call asks of one task.
use Rattle.std.specs.Prelude.{Bool, false, ◌&&◌, Option, Some, None}
use Rattle.dine_words.specs.declared.task.Task.{Task}
use Rattle.dine_words.specs.declared.task.State.{State}
use Rattle.dine_words.specs.declared.task.State.TheVariants.{Thinking, Hungry, Eating}
use Rattle.dine_words.specs.declared.call.Call.{Call}
use Rattle.dine_words.specs.declared.call.Call.TheVariants as call
use Rattle.dine_table.specs.Table.{same_task}

-- `task` goes from the state `before` to the state `after`, which is None where the task leaves
pub record Transition : Type 0 where
  pub task : Task
  pub before : State
  pub after : Option State

-- the transition that a call asks for: None for a call that asks none of a task that is present
abbrev pub transition_of : Call → Option Transition
transition_of call.Join = None
transition_of (call.Leave u) = Some (record { task = u; before = Thinking; after = None })
transition_of (call.Conflict u v) = None
transition_of (call.Separate u v) = None
transition_of (call.Hungry u) = Some (record { task = u; before = Thinking; after = Some Hungry })
transition_of (call.Begin u) = Some (record { task = u; before = Hungry; after = Some Eating })
transition_of (call.Finish u) = Some (record { task = u; before = Eating; after = Some Thinking })
transition_of (call.Withdraw u) = Some (record { task = u; before = Hungry; after = Some Thinking })

-- a transition is asked for, it is u's, and it passes the test
abbrev pub is_asked_of : Task → (Transition → Bool) → Option Transition → Bool
is_asked_of u test None = false
is_asked_of u test (Some asked) = test asked && same_task u asked.task
