-- What a task does at the edges of its slot: what becomes of the fork of one, and how many messages that takes.
use Rattle.std.specs.Prelude.{ℕ, Bool, not, ◌&&◌, if◌then◌else◌, List, slice_index_or}
use Rattle.dine_words.specs.declared.task.State.{State}
use Rattle.dine_words.specs.declared.task.State.TheVariants.{Thinking}
use Rattle.dine_forks.specs.declared.record.Fork.{Fork}
use Rattle.dine_arbiter.specs.Edge.{same_bool, settled}

-- the state of the task at each slot
abbrev pub states_by : List State → ℕ → State
states_by states slot = slice_index_or states slot Thinking

-- the fork once the edge is quiet, of which the task in the own state is the first end or the second
abbrev pub settled_beside : State → State → Bool → Fork → Fork
settled_beside own other first fork = if first then settled fork own other else settled fork other own

-- the edge is settled so, by its other end
abbrev pub settles : State → (ℕ → State) → Bool → ℕ → Fork → Fork
settles own states first other fork = settled_beside own (states other) first fork

-- ---- what a walk meets

-- the end lacks the fork, and has its token: so it is with one that has grown hungry and lacks it
abbrev pub has_token_alone : Bool → Fork → Bool
has_token_alone first fork = same_bool fork.at_first (not first) && same_bool fork.token_first first

-- the end has the fork, dirty, and its token: so it is with one that has eaten and is asked for it
abbrev pub has_dirty_pair : Bool → Fork → Bool
has_dirty_pair first fork = same_bool fork.at_first first && (fork.dirty && same_bool fork.token_first first)
