-- The history of calls that were made in order.
use Rattle.std.specs.Prelude.{◌≡◌, List, map}
use Rattle.std.specs.List.{AllByRecursion}
use Rattle.dine_words.specs.declared.call.Call.{Call}
use Rattle.dine_words.specs.declared.entry.Entry.{Entry}
use Rattle.dine_words.specs.declared.limits.Limits.{Limits}
use Rattle.dine_table.specs.History.{IsLegal}
use Rattle.dine_words.specs.Texts.{IsEntryOf}
use Rattle.dine_words.specs.Versions.{written_version}

-- the entries are those of these calls, and can be written
pub record HasMade (calls : List Call) (history : List Entry) : Type 0 where
  pub calls_are : map (λ e. e.call) history ≡ calls
  pub fit : AllByRecursion (IsEntryOf written_version) history

-- the history is legal, and its calls are these
pub record IsRecordOf (limits : Limits) (calls : List Call) (history : List Entry) : Type 0 where
  pub legal : IsLegal limits history
  pub calls_are : map (λ e. e.call) history ≡ calls
