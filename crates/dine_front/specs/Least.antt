-- What a front has that nobody named: the least limits that a table can have, and a book that is none.
use Rattle.std.proofs.Common.{refl, leb-true}
use Rattle.logbook.specs.Pages.{Book}
use Rattle.dine_words.specs.declared.limits.Limits.{Limits}

-- one task, and one conflict
abbrev pub least_limits : Limits
least_limits =
    record {
      tasks = 1;
      conflicts = 1;
      some_tasks = leb-true 1 1 refl;
      tasks_in_range = leb-true 1 4096 refl;
      some_conflicts = leb-true 1 1 refl;
      conflicts_in_range = leb-true 1 65535 refl;
    }

-- a book that nobody opened
abbrev pub no_book : Book
no_book = record { number = 0; log_name = 0; cells_name = 0 }
