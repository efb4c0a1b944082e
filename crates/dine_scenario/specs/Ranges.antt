-- What a scenario may have, and what it has where it doesn't say.
use Rattle.std.specs.Prelude.{ℕ}

-- how many tasks a document allows that doesn't say
abbrev pub tasks_by_default : ℕ
tasks_by_default = 64

-- how many conflicts a document allows that doesn't say
abbrev pub conflicts_by_default : ℕ
conflicts_by_default = 256

-- how often a worker does its steps that doesn't say
abbrev pub repeat_by_default : ℕ
repeat_by_default = 1

-- how often, at most, a worker may do its steps
abbrev pub most_repeats : ℕ
most_repeats = 1000000

-- the most workers that a scenario may have
abbrev pub most_workers : ℕ
most_workers = 16
