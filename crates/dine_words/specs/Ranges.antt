-- How many tasks and conflicts there can be, and how long a line can be.
use Rattle.std.specs.Prelude.{ℕ}

-- the most tasks that limits can allow
abbrev pub most_tasks : ℕ
most_tasks = 4096

-- the most conflicts that limits can allow
abbrev pub most_conflicts : ℕ
most_conflicts = 65535

-- the most tasks that a header of version 1 can allow
abbrev pub most_tasks_of_version_1 : ℕ
most_tasks_of_version_1 = 256

-- the most conflicts that a header of version 1 can allow
abbrev pub most_conflicts_of_version_1 : ℕ
most_conflicts_of_version_1 = 1024

-- the most bytes that a line may have, its line feed not counted
abbrev pub most_bytes : ℕ
most_bytes = 4096
