-- How many messages a call costs: each is one token or one fork that is sent.
use Rattle.std.specs.Prelude.{ℕ, Bool, if◌then◌else◌, Option, Some, None, is_none}
use Rattle.std.specs.List.{sum_by, count_by}
use Rattle.dine_words.specs.declared.task.State.{State}
use Rattle.dine_words.specs.declared.task.State.TheVariants.{Thinking, Hungry, Eating}
use Rattle.dine_words.specs.declared.call.Call.{Call}
use Rattle.dine_words.specs.declared.call.Call.TheVariants as call
use Rattle.dine_table.specs.Table.{Table, state_of, is_in, neighbours_of, sooner}
use Rattle.dine_table.specs.Calls.{refusal_of}

-- the messages on the edge to a neighbour in this state, when a task grows hungry whose last meal is sooner than the
-- neighbour's, or not
abbrev pub hunger_cost : Bool → Option State → ℕ
hunger_cost is_sooner (Some Thinking) = if is_sooner then 2 else 0
hunger_cost is_sooner (Some Hungry) = if is_sooner then 3 else 1
hunger_cost is_sooner (Some Eating) = 1
hunger_cost is_sooner None = 0

-- the messages on a new edge between a hungry end whose last meal is sooner and an end in this state
abbrev pub conflict_cost_if_hungry : Option State → ℕ
conflict_cost_if_hungry (Some Thinking) = 2
conflict_cost_if_hungry (Some Hungry) = 3
conflict_cost_if_hungry (Some Eating) = 1
conflict_cost_if_hungry None = 0

-- the messages on a new edge, by the states of the end whose last meal is sooner and of the other
abbrev pub conflict_cost : Option State → Option State → ℕ
conflict_cost (Some Thinking) other = 0
conflict_cost (Some Hungry) other = conflict_cost_if_hungry other
conflict_cost (Some Eating) other = 0
conflict_cost None other = 0

-- the messages on the edge to a neighbour in this state, when a hungry task withdraws whose last meal is sooner than
-- the neighbour's, or not
abbrev pub withdrawal_cost : Bool → Option State → ℕ
withdrawal_cost is_sooner (Some Thinking) = if is_sooner then 2 else 0
withdrawal_cost is_sooner (Some Hungry) = 1
withdrawal_cost is_sooner (Some Eating) = 1
withdrawal_cost is_sooner None = 0

-- the messages of a call that is accepted
abbrev pub cost_if_accepted : Table → Call → ℕ
cost_if_accepted t (call.Hungry u) = sum_by (λ v. hunger_cost (sooner t.order u v) (state_of t v)) (neighbours_of t u)
cost_if_accepted t (call.Finish u) = count_by (λ v. is_in Hungry t.order v) (neighbours_of t u)
cost_if_accepted t (call.Conflict u v) =
    if sooner t.order u v then conflict_cost (state_of t u) (state_of t v)
    else conflict_cost (state_of t v) (state_of t u)
cost_if_accepted t (call.Withdraw u) =
    sum_by (λ v. withdrawal_cost (sooner t.order u v) (state_of t v)) (neighbours_of t u)
cost_if_accepted t call.Join = 0
cost_if_accepted t (call.Leave u) = 0
cost_if_accepted t (call.Separate u v) = 0
cost_if_accepted t (call.Begin u) = 0

-- the messages of a call. A refused call costs none
abbrev pub cost_of : Table → Call → ℕ
cost_of t c = if is_none (refusal_of t c) then cost_if_accepted t c else 0
