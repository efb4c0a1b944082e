-- The form of a scenario: which keys its tables have, and what the keys hold.
use Rattle.std.specs.Prelude.{ℕ, ℤ, pos, negsuc, nat_le, Bool, true, not, ◌&&◌, if◌then◌else◌, List, [], ◌∷◌, length, codes, Option, Some, None}
use Rattle.std.specs.List.{list_any}
use Rattle.std.specs.Str.{bytes_eq}
use Rattle.dine_words.specs.Ranges.{most_conflicts, most_tasks}
use Rattle.dine_words.specs.Reading.{◌>>=◌}
use Rattle.toml.specs.Data.{Data, Items, no_items, item, Members, no_members, member, as_array, as_integer, as_str, as_table, get_member}
use Rattle.dine_scenario.specs.Plan.{WorkerPlan, WrittenPlan}
use Rattle.dine_scenario.specs.Ranges.{conflicts_by_default, most_repeats, most_workers, repeat_by_default, tasks_by_default}

-- the key is one of these
abbrev pub is_one_of : List (List ℕ) → List ℕ → Bool
is_one_of keys key = list_any (λ known. bytes_eq known key) keys

-- each key of the table is one of these
abbrev pub has_only : List (List ℕ) → Members → Bool
has_only keys no_members = true
has_only keys (member key d ms) = is_one_of keys key && has_only keys ms

-- the keys of a scenario
abbrev pub scenario_keys : List (List ℕ)
scenario_keys = codes "tasks" ∷ codes "conflicts" ∷ codes "setup" ∷ codes "worker" ∷ []

-- the keys of a worker
abbrev pub worker_keys : List (List ℕ)
worker_keys = codes "repeat" ∷ codes "steps" ∷ []

-- the number, if it is from low to high
abbrev pub number_from : ℕ → ℕ → ℤ → Option ℕ
number_from low high (pos n) = if nat_le low n && nat_le n high then Some n else None
number_from low high (negsuc n) = None

-- a value as a number from low to high
abbrev pub number_in : ℕ → ℕ → Data → Option ℕ
number_in low high d = as_integer d >>= number_from low high

-- what a key holds as a number from low to high. The default stands for a missing key
abbrev pub number_or : ℕ → ℕ → ℕ → Option Data → Option ℕ
number_or default low high None = Some default
number_or default low high (Some d) = number_in low high d

-- items as strings
abbrev pub strings_of : Items → Option (List (List ℕ))
strings_of no_items = Some []
strings_of (item d ds) = do
  line ← as_str d
  more ← strings_of ds
  Some (line ∷ more)

-- a value as a list of strings
abbrev pub lines_in : Data → Option (List (List ℕ))
lines_in d = as_array d >>= strings_of

-- what a key holds as a list of strings. A missing key holds none
abbrev pub lines_or_none : Option Data → Option (List (List ℕ))
lines_or_none None = Some []
lines_or_none (Some d) = lines_in d

-- a table as a worker
abbrev pub worker_of : Members → Option (WorkerPlan (List ℕ))
worker_of ms =
    if not (has_only worker_keys ms) then None
    else do
      repeat ← number_or repeat_by_default 0 most_repeats (get_member (codes "repeat") ms)
      found ← get_member (codes "steps") ms
      steps ← lines_in found
      Some (record { repeat = repeat; steps = steps })

-- a value as a worker
abbrev pub worker_in : Data → Option (WorkerPlan (List ℕ))
worker_in d = as_table d >>= worker_of

-- items as workers
abbrev pub each_worker : Items → Option (List (WorkerPlan (List ℕ)))
each_worker no_items = Some []
each_worker (item d ds) = do
  worker ← worker_in d
  more ← each_worker ds
  Some (worker ∷ more)

-- the workers, if there is one at least and there are not too many
abbrev pub if_in_number : {A : Type 0} → List A → Option (List A)
if_in_number workers =
    if nat_le 1 (length workers) && nat_le (length workers) most_workers then Some workers else None

-- a value as a list of workers
abbrev pub workers_in : Data → Option (List (WorkerPlan (List ℕ)))
workers_in d = as_array d >>= each_worker >>= if_in_number

-- how many tasks and conflicts a document allows
abbrev pub limits_of : Members → Option (ℕ × ℕ)
limits_of ms = do
  tasks ← number_or tasks_by_default 1 most_tasks (get_member (codes "tasks") ms)
  conflicts ← number_or conflicts_by_default 1 most_conflicts (get_member (codes "conflicts") ms)
  Some (tasks, conflicts)

-- a document as a scenario whose lines are still to be read
abbrev pub written_plan : Members → Option WrittenPlan
written_plan ms =
    if not (has_only scenario_keys ms) then None
    else do
      limits ← limits_of ms
      setup ← lines_or_none (get_member (codes "setup") ms)
      found ← get_member (codes "worker") ms
      workers ← workers_in found
      Some (record { tasks = limits.0; conflicts = limits.1; setup = setup; workers = workers })
