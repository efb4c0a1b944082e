-- What is seen of a journal and of a hall, and what a hall keeps true.
use Rattle.std.specs.Prelude.{◌≡◌, ℕ, List}
use Rattle.dine_words.specs.declared.entry.Entry.{Entry}
use Rattle.dine_words.specs.declared.limits.Limits.{Limits}
use Rattle.dine_table.specs.Table.{Table}
use Rattle.dine_table.specs.History.{table_after, IsLegal}
use Rattle.dine_journal.specs.Costs.{last_cost}

-- what is seen of a history that lies flat: its entries in order, and how many more of them it has room for
pub record FlatHistory : Type 0 where
  pub entries : List Entry
  pub room : ℕ

-- what is seen of a journal: its limits, and the entries of its history in order
pub record Journal : Type 0 where
  pub limits : Limits
  pub entries : List Entry

-- what is seen of a hall: its limits, the entries of its history in order, and how many more of them it has room for
pub record Hall : Type 0 where
  pub limits : Limits
  pub history : List Entry
  pub room : ℕ

-- the table that the history of a hall leaves
abbrev pub table_now : Hall → Table
table_now hall = table_after hall.limits hall.history

-- the history is legal, the table is the one that it leaves, and the messages are the cost of its last call
pub record IsKeptHall (limits : Limits) (history : List Entry) (table : Table) (messages : ℕ) : Type 0 where
  pub legal : IsLegal limits history
  pub follows : table ≡ table_after limits history
  pub costs : messages ≡ last_cost limits history
