-- The messages of the last call of a history.
use Rattle.std.specs.Prelude.{ℕ, List, [], ◌∷◌}
use Rattle.dine_words.specs.declared.entry.Entry.{Entry}
use Rattle.dine_words.specs.declared.limits.Limits.{Limits}
use Rattle.dine_table.specs.Table.{Table, opening_table}
use Rattle.dine_table.specs.Calls.{table_after_call}
use Rattle.dine_table.specs.Messages.{cost_of}

-- the cost of the last entry's call in the table before it, or `cost` where there are no entries
abbrev pub last_cost_from : Table → ℕ → List Entry → ℕ
last_cost_from t cost [] = cost
last_cost_from t cost (e ∷ es) = last_cost_from (table_after_call t e.call) (cost_of t e.call) es

-- the cost of the last entry's call in the table before it, 0 where there are no entries
abbrev pub last_cost : Limits → List Entry → ℕ
last_cost limits history = last_cost_from (opening_table limits) 0 history
