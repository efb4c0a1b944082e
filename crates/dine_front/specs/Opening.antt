-- From what the front of a name can be opened.
use Rattle.std.specs.Prelude.{◌≡◌, ℕ}
use Rattle.std.specs.declared.sync.ledger.Blank.{Blank}
use Rattle.logbook.specs.Pages.{Book}
use Rattle.dine_words.specs.declared.limits.Limits.{Limits}
use Rattle.dine_front.specs.declared.naming.TheConstants.{LEDGER_PARTS}
use Rattle.dine_front.specs.Passes.{Opened}

-- the front of a name, which tells all this, can be opened from a ledger and from what was made ready: the name is that of
-- the ledger, which has the parts of a front's, and tells the limits, the passes and the book of what was made ready
pub record CanOpen
    (name parts : ℕ) (limits : Limits) (passes : ℕ) (book : Book) (ledger : Blank) (opened : Opened) : Type 0 where
  pub same_ledger : ledger.name ≡ name
  pub same_parts : ledger.parts ≡ parts
  pub all_parts : ledger.parts ≡ LEDGER_PARTS
  pub same_limits : opened.limits ≡ limits
  pub same_passes : opened.passes ≡ passes
  pub same_book : opened.book ≡ book
