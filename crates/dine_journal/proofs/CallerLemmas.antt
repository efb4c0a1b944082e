-- What the proofs of other crates cite of journals: tables and boards along histories, and lines.

-- the state of a task after a call
pub use Rattle.dine_journal.proofs.StateChanges.{state_changed, state-changed}
-- the clock along a history
pub use Rattle.dine_journal.proofs.Growth.{clock-table_after}
-- the board of a history, and its table
pub use Rattle.dine_journal.proofs.Boards.{board-shows, board_from-append}
-- entries and receipts that lie flat
pub use Rattle.dine_journal.proofs.Flats.{receipts-append, told_joins_alone}
-- the lines of a journal, one behind the other
pub use Rattle.dine_journal.proofs.Pending.{entry_lines-append, text_of_version-append, text_of_version-push}
-- what is noted of overtaking along a history
pub use Rattle.dine_journal.proofs.Noting.{most-told}
