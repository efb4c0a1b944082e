-- Names of tasks in scripts, and the tasks that they are bound to.
use Rattle.std.specs.Prelude.{ℕ, nat_le, Bool, false, ◌&&◌, ◌||◌, List, [], ◌∷◌, length, Option}
use Rattle.std.specs.List.{list_all}
use Rattle.std.specs.Map.{lookup}
use Rattle.std.specs.Str.{bytes_eq}
use Rattle.indexmap.specs.IndexMap.{insert_entry}
use Rattle.dine_words.specs.declared.task.Task.{Task}

-- a letter from a to z, or a digit
abbrev pub is_name_byte : ℕ → Bool
is_name_byte byte = (nat_le 97 byte && nat_le byte 122) || (nat_le 48 byte && nat_le byte 57)

-- the text begins with a byte that may stand in a name
abbrev pub begins_name : List ℕ → Bool
begins_name [] = false
begins_name (byte ∷ bytes) = is_name_byte byte

-- the most letters that a name may have
abbrev pub most_letters : ℕ
most_letters = 16

-- the word is a name: from 1 to 16 small letters and digits
abbrev pub is_name : List ℕ → Bool
is_name word = nat_le 1 (length word) && nat_le (length word) most_letters && list_all is_name_byte word

-- the names that are bound, each with its task, in the order in which they were bound
abbrev pub Names : Type 0
Names = List (List ℕ × Task)

-- the task that a name is bound to
abbrev pub task_named : Names → List ℕ → Option Task
task_named names name = lookup (bytes_eq name) names

-- the names after one is bound to a task: a name that was bound keeps its place and takes the task, and a free one goes last
abbrev pub rebound : Names → List ℕ → Task → Names
rebound names name t = insert_entry bytes_eq names name t
