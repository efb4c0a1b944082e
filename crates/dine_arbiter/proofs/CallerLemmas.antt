-- What the proofs of other crates cite of the arbiter.

-- a walk over the records of a slot
pub use Rattle.dine_arbiter.proofs.Walks.{read_on, shorter}
-- whether a task is ready, by the forks of its slot
pub use Rattle.dine_arbiter.proofs.Agreement.{ready-holds}
