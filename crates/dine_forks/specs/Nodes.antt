-- The records of a book with their neighbours, as the pointers of the block stand for them.
use Rattle.std.specs.Prelude.{ℕ, List}
use Rattle.dine_forks.specs.declared.record.ForkRecord.{ForkRecord}
use Rattle.dine_forks.specs.declared.lists.Links.{Links}

-- a record with its neighbours in the lists of its first and of its second end, and in the list of all
pub record Node : Type 0 where
  pub content : ForkRecord
  pub at_first : Links
  pub at_second : Links
  pub all : Links

-- records in their lists: those that were ever given, in the order of their ids, and how many there is room for
pub record Records : Type 0 where
  pub room : ℕ
  pub nodes : List Node
