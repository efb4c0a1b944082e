-- What the proofs of other crates cite of replays: that legal histories join to one, and the one answer to a text.

-- a legal history behind another
pub use Rattle.dine_replay.proofs.Grown.{legal-both}
-- the one answer to a text
pub use Rattle.dine_replay.proofs.OneAnswer.{one_answer}
-- a fault that is passed on
pub use Rattle.dine_replay.proofs.Told.{passed}
